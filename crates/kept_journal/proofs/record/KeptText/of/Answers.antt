use Rattle.std.proofs.Common.{◌≡◌, ◌+◌, ◌++◌, [], ◌∷◌, rules, length, sym, ap, ◌∙◌}
use Rattle.std.specs.Int.{w32}
use Rattle.ar_bytes.specs.RoundTrip.{number_text}
use Rattle.kept_journal.specs.Appending.{staged_text, text_of_staged}
use Rattle.kept_journal.proofs.Spelled.{short_staged, staged_made, text_again}
use Rattle.kept_journal.proofs.record.KeptText.of.Goals as goal

pub invariant_of-result : goal.invariant_of-result
invariant_of-result c =
    let head : c.put_u32.new.out.items ≡ number_text w32 (length c.args.body.now + 1) = search rules in
    let kind : c.push.new.self.items ≡ c.put_u32.new.out.items ++ c.args.kind ∷ [] = search rules in
    let body : c.extend_from_slice.new.self.items ≡ c.push.new.self.items ++ c.args.body.now = search rules in
    let last : c.push-2.new.self.items ≡ c.extend_from_slice.new.self.items ++ 0 ∷ [] = search rules in
    let is = staged_made c.args.kind c.args.body.now _ _ _ _ head kind body last in
    (is ∙ ap staged_text (sym (ap text_of_staged is ∙ text_again (c.args.kind ∷ c.args.body.now))), short_staged c.args.kind c.args.body.now _ is c.requires)

pub returns : goal.returns
returns c =
    let head : c.put_u32.new.out.items ≡ number_text w32 (length c.args.body.now + 1) = search rules in
    let kind : c.push.new.self.items ≡ c.put_u32.new.out.items ++ c.args.kind ∷ [] = search rules in
    let body : c.extend_from_slice.new.self.items ≡ c.push.new.self.items ++ c.args.body.now = search rules in
    let last : c.push-2.new.self.items ≡ c.extend_from_slice.new.self.items ++ 0 ∷ [] = search rules in
    let is = staged_made c.args.kind c.args.body.now _ _ _ _ head kind body last in
    ap text_of_staged is ∙ text_again (c.args.kind ∷ c.args.body.now)
