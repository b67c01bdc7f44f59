use Rattle.std.proofs.Common.{◌≡◌, ◌∙◌, ap, sym, arith, ◌+◌, ◌-◌, ◌*◌, ◌/◌, ◌^◌, ◌<◌, ◌++◌, [], length, take, get_or}
use Rattle.std.specs.List.{flat_map, range_with_len}
use Rattle.std.proofs.lemmas.List.{append_assoc}
use Rattle.std.proofs.lemmas.Nat.{shr-shr, pow_pos}
use Rattle.lm_ots.specs.OtsKind.{signature_len_of}
use Rattle.lm_ots.proofs.EndLemmas.{flat_map-range-more}
use Rattle.lms_tree.specs.LmsKind.{height_of}
use Rattle.lms_tree.specs.Nodes.{IsAt}
use Rattle.lms_tree.specs.Key.{node_at, path_element, sibling_of}
use Rattle.lms_tree.proofs.NodeLemmas.{pow-more, pow-height_of-le, sibling-at}
use Rattle.lms_tree.proofs.SigningLemmas.{length-node_at}
use Rattle.lms_tree.proofs.path.put_path.Goals as goal

pub sibling_of-requires : goal.sibling_of-requires
sibling_of-requires c = omega (arith, c.loop-k.invariant.bound, pow-height_of-le c.args.parts.now.lms)

pub loop-k-preserved : goal.loop-k-preserved
loop-k-preserved c =
    let key = c.args.parts.now in
    let leaf = c.args.leaf in
    let h = height_of key.lms in
    let k = c.loop-k.k in
    let node = c.loop-k.node in
    let kept = c.loop-k.invariant in
    let front = 8 + signature_len_of key.ots in
    let path = path_element key leaf in
    let tall : c.height-k-end.result ≡ h = c.height-k-end.ensures ∙ ap height_of c.lms-2.ensures in
    let below : k < h = omega (arith, tall, c.loop-k-test.true) in
    let depth = h - k in
    let level = kept.level depth (omega arith) in
    let at : IsAt key depth k node = (omega arith, level.0, level.1) in
    let beside : IsAt key depth k (sibling_of node) = sibling-at key depth k node (omega arith) at in
    let value = get_or c.args.nodes.now c.sibling_of.result [] in
    let value_is : value ≡ path k =
    ap (λ r. get_or c.args.nodes.now r []) c.sibling_of.ensures
    ∙ c.requires.nodes depth k (sibling_of node) beside (omega (arith, beside.1, pow_pos depth))
    ∙ ap (λ r. node_at key k (sibling_of r)) kept.node in
    let place : 8 + c.signature_len-path_place.result + 32 * k ≡ front + 32 * k =
    ap (λ n. 8 + n + 32 * k) (c.signature_len-path_place.ensures ∙ ap signature_len_of c.ots.ensures) in
    let written = c.write_bytes.ensures in
    let width : length value ≡ 32 = ap length value_is ∙ length-node_at key k (sibling_of ((2 ^ h + leaf) / 2 ^ k)) in
    let more : front + 32 * (k + 1) ≡ c.write_bytes.result = omega (arith, place, written.place, width) in
    record {
      node = ap (λ n. n / 2) kept.node ∙ shr-shr (2 ^ h + leaf) k 1;
      bound = omega (arith, kept.bound);
      level = λ d e.
          let deeper = kept.level (d + 1) (omega arith) in
          (omega (arith, deeper.0, pow-more d), omega (arith, deeper.1, pow-more d));
      out = ap (λ n. take n c.write_bytes.new.out) more ∙ written.front
          ∙ ap (λ n. take n c.loop-k.out ++ value) place
          ∙ ap (λ l. l ++ value) kept.out
          ∙ append_assoc (take front c.args.out.now) (flat_map path (range_with_len 0 k)) value
          ∙ ap (λ l. take front c.args.out.now ++ (flat_map path (range_with_len 0 k) ++ l)) value_is
          ∙ ap (λ l. take front c.args.out.now ++ l) (sym (flat_map-range-more path k));
    }
