use Rattle.std.proofs.Common.{◌≡◌, ◌∙◌, ap, sym, arith, ◌<◌, ◌++◌, [], length, take, slice_index_or}
use Rattle.std.specs.List.{flat_map, range_with_len}
use Rattle.std.proofs.lemmas.List.{take_all, append_assoc, get_or-replicate}
use Rattle.lm_ots.specs.OtsKind.{count_of}
use Rattle.lm_ots.specs.Digits.{digit}
use Rattle.lm_ots.specs.Signing.{signed_element, value_after}
use Rattle.lm_ots.proofs.EndLemmas.{flat_map-range-more}
use Rattle.lm_ots.proofs.SigningLemmas.{length-value_after}
use Rattle.lm_ots.proofs.WayLemmas.{count_of-le, from_beginning}
use Rattle.lm_ots.proofs.signing.put_elements.Goals as goal

pub write_bytes-place-requires : goal.write_bytes-place-requires
write_bytes-place-requires c =
    omega (arith, c.loop-i.invariant.place, c.requires, c.p-i-end.ensures, c.loop-i-test.true)

pub loop-i-preserved : goal.loop-i-preserved
loop-i-preserved c =
    let secret = c.args.secret.now in
    let q = c.args.hash.now in
    let i = c.loop-i.i in
    let value = slice_index_or c.walk.new.chains.values i [] in
    let front = take 36 c.args.out.now in
    let elements = signed_element secret q in
    let kept = c.loop-i.invariant in
    let written = c.write_bytes-place.ensures in
    let below : i < count_of secret.kind = omega (arith, c.p-i-end.ensures, c.loop-i-test.true) in
    let few = count_of-le secret.kind in
    let room : i < 268 = omega arith in
    let element : value ≡ elements i =
    c.walk.ensures i (omega (arith, c.p.ensures))
    ∙ from_beginning secret i _ _ _ (get_or-replicate 268 i 0 0 room) (c.put_beginnings.ensures i below)
    ∙ ap (λ n. value_after secret n i) (c.digits.ensures i below) in
    let width : length value ≡ 32 = ap length element ∙ length-value_after secret (digit secret.kind q i) i in
    record {
      place = omega (arith, written.place, width, kept.place);
      out = written.front
          ∙ ap (λ l. l ++ value) kept.out
          ∙ append_assoc front (flat_map elements (range_with_len 0 i)) value
          ∙ ap (λ l. front ++ (flat_map elements (range_with_len 0 i) ++ l)) element
          ∙ ap (λ l. front ++ l) (sym (flat_map-range-more elements i));
    }

pub returns : goal.returns
returns c =
    let secret = c.args.secret.now in
    let kept = c.loop-i.invariant in
    let at_end : c.loop-i.i ≡ count_of secret.kind = omega (arith, c.p-i-end.ensures) in
    let whole = c.loop-i.auto.out in
    let room = c.requires in
    sym (take_all c.loop-i.place c.loop-i.out (omega (arith, kept.place))) ∙ kept.out
    ∙ ap (λ n. take 36 c.args.out.now ++ flat_map (signed_element secret c.args.hash.now) (range_with_len 0 n)) at_end
