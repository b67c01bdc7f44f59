use Rattle.std.proofs.Common.{◌≡◌, ◌≢◌, ◌∙◌, ap, sym, inl, inr, arith, ℕ, suc, ◌+◌, ◌-◌, ◌*◌, ◌^◌, ◌<◌, ◌≤◌, List, [], length, get_or, set}
use Rattle.std.proofs.lemmas.Bool.{cases_lt}
use Rattle.std.proofs.lemmas.List.{get_or-set_other, get_or-set_same}
use Rattle.lms_tree.specs.KeyParts.{KeyParts}
use Rattle.lms_tree.specs.LmsKind.{height_of}
use Rattle.lms_tree.specs.Nodes.{IsAt, HoldsFrom}
use Rattle.lms_tree.specs.Tree.{inner_node}
use Rattle.lms_tree.specs.Key.{id_of, node_at}
use Rattle.lms_tree.proofs.NodeLemmas.{node_at-more, height-of-inner, child-left, child-right}
use Rattle.lms_tree.proofs.nodes.fill_inner.Goals as goal

-- what one turn writes is T[r], where the nodes from n on are those of the key
inner-is : (key : KeyParts) (n depth height r : ℕ) (id value : List ℕ) (nodes : List (List ℕ)) → HoldsFrom key n nodes → IsAt key depth height r → r < 2 ^ height_of key.lms → n ≤ 2 * r → id ≡ id_of key.seed → value ≡ inner_node id r (get_or nodes (2 * r) []) (get_or nodes (2 * r + 1) []) → value ≡ node_at key height r
inner-is key n depth height r id value nodes kept at high below id_is value_is =
    let inner = height-of-inner key depth height r at high in
    let k = inner.0 in
    let same : depth + suc k ≡ height_of key.lms = omega (arith, at.0, inner.1) in
    let here : IsAt key depth (suc k) r = (same, at.1, at.2) in
    let left = kept (depth + 1) k (2 * r) (child-left key depth k r here) below in
    let right = kept (depth + 1) k (2 * r + 1) (child-right key depth k r here) (omega arith) in
    value_is ∙ ap (λ i. inner_node i r (get_or nodes (2 * r) []) (get_or nodes (2 * r + 1) [])) id_is
    ∙ ap (λ l. inner_node (id_of key.seed) r l (get_or nodes (2 * r + 1) [])) left
    ∙ ap (λ l. inner_node (id_of key.seed) r (node_at key k (2 * r)) l) right
    ∙ sym (node_at-more key k r) ∙ ap (λ h. node_at key h r) (sym inner.1)

pub loop-done-preserved : goal.loop-done-preserved
loop-done-preserved c = λ depth height r at low.
    let key = c.args.parts.now in
    let nodes = c.loop-done.nodes in
    let done = c.loop-done.done in
    let node = c.leaves-leaves.result - done in
    let value = c.inner_node.result in
    let first = c.leaves-leaves.ensures ∙ ap (λ k. 2 ^ height_of k) c.lms.ensures in
    let room : node < length nodes = omega (arith, c.requires.len, c.loop-done.auto.nodes, first) in
    let from = 2 ^ height_of key.lms + 1 - done in
    elim (cases_lt node r) [
      | inl after ↦
          let other : r ≢ node = omega arith in
          get_or-set_other nodes node r value [] other ∙ c.loop-done.invariant depth height r at (omega (arith, first))
      | inr before ↦
          let same : r ≡ node = omega (arith, first, low) in
          let high : r < 2 ^ height_of key.lms = omega (arith, first, c.loop-done-test.true, c.loop-done.auto.done) in
          let below : from ≤ 2 * r = omega (arith, first, c.loop-done-test.true, c.loop-done.auto.done) in
          let value_is : value ≡ inner_node c.id.result.now r (get_or nodes (2 * r) []) (get_or nodes (2 * r + 1) []) =
          c.inner_node.ensures
          ∙ ap (λ n. inner_node c.id.result.now n (get_or nodes (2 * n) []) (get_or nodes (2 * n + 1) [])) (sym same) in
          ap (λ n. get_or (set nodes node value) n []) same ∙ get_or-set_same nodes node value [] room
          ∙ inner-is key from depth height r c.id.result.now value nodes c.loop-done.invariant at high below c.id.ensures value_is
    ]
