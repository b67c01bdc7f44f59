use Rattle.std.proofs.Common.{◌≡◌, ◌+◌, ◌-◌, ◌++◌, [], ◌∷◌, rules, length, sym, ap, ◌∙◌, arith}
use Rattle.std.specs.Int.{w32}
use Rattle.ar_bytes.proofs.Passing.{length-number_text}
use Rattle.ar_bytes.specs.RoundTrip.{number_text}
use Rattle.chained_journal.specs.Appending.{staged_front}
use Rattle.chained_journal.specs.Journal.{filling}
use Rattle.chained_journal.proofs.Splits.{length-filling}
use Rattle.chained_journal.proofs.Spelled.{front_again, front_short, staged_made}
use Rattle.chained_journal.proofs.record.KeptText.of.Goals as goal

pub invariant_of-result : goal.invariant_of-result
invariant_of-result c =
    let one : c.put_u32.new.out.items ≡ number_text w32 (length c.args.body.now + 1) = search rules in
    let two : c.put_u32-2.new.out.items ≡ c.put_u32.new.out.items ++ number_text w32 (4294967295 - (length c.args.body.now + 1)) = search rules in
    let kind : c.push.new.self.items ≡ c.put_u32-2.new.out.items ++ c.args.kind ∷ [] = search rules in
    let body : c.extend_from_slice.new.self.items ≡ c.push.new.self.items ++ c.args.body.now = search rules in
    let last : c.extend_from_slice-2.new.self.items ≡ c.extend_from_slice.new.self.items ++ filling (length c.args.body.now + 1) = search rules in
    let is = staged_made c.args.kind c.args.body.now _ _ _ _ _ one two kind body last in (
      is ∙ ap staged_front (sym (front_again c.args.kind c.args.body.now _ is)),
      front_short c.args.kind c.args.body.now _ is c.requires,
      omega (arith, c.in_ok-put_u32.ensures.appends.len, c.in_ok-put_u32-2.ensures.appends.len, c.in_ok-put_u32.ensures.appends.capacity, c.in_ok-put_u32-2.ensures.appends.capacity, length-number_text w32 (length c.args.body.now + 1), length-number_text w32 (4294967295 - (length c.args.body.now + 1)), length-filling (length c.args.body.now + 1), c.new-bytes.ensures.len, c.in_ok-reserve.ensures.len, c.in_ok-reserve.ensures.ok, c.in_ok-reserve.ensures.capacity, c.in_ok-push.ensures.len, c.in_ok-push.ensures.capacity, c.in_ok-extend_from_slice.ensures.len, c.in_ok-extend_from_slice.ensures.capacity, c.in_ok-extend_from_slice-2.ensures.len, c.in_ok-extend_from_slice-2.ensures.capacity),
      omega (arith, c.in_ok-put_u32.ensures.appends.len, c.in_ok-put_u32-2.ensures.appends.len, c.in_ok-put_u32.ensures.appends.capacity, c.in_ok-put_u32-2.ensures.appends.capacity, length-number_text w32 (length c.args.body.now + 1), length-number_text w32 (4294967295 - (length c.args.body.now + 1)), length-filling (length c.args.body.now + 1), c.new-bytes.ensures.len, c.in_ok-reserve.ensures.len, c.in_ok-reserve.ensures.ok, c.in_ok-reserve.ensures.capacity, c.in_ok-push.ensures.len, c.in_ok-push.ensures.capacity, c.in_ok-extend_from_slice.ensures.len, c.in_ok-extend_from_slice.ensures.capacity, c.in_ok-extend_from_slice-2.ensures.len, c.in_ok-extend_from_slice-2.ensures.capacity),
    )

pub returns : goal.returns
returns c =
    let one : c.put_u32.new.out.items ≡ number_text w32 (length c.args.body.now + 1) = search rules in
    let two : c.put_u32-2.new.out.items ≡ c.put_u32.new.out.items ++ number_text w32 (4294967295 - (length c.args.body.now + 1)) = search rules in
    let kind : c.push.new.self.items ≡ c.put_u32-2.new.out.items ++ c.args.kind ∷ [] = search rules in
    let body : c.extend_from_slice.new.self.items ≡ c.push.new.self.items ++ c.args.body.now = search rules in
    let last : c.extend_from_slice-2.new.self.items ≡ c.extend_from_slice.new.self.items ++ filling (length c.args.body.now + 1) = search rules in
    front_again c.args.kind c.args.body.now _ (staged_made c.args.kind c.args.body.now _ _ _ _ _ one two kind body last)
