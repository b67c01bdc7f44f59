use Rattle.std.proofs.Common.{◌≡◌, ◌≢◌, ◌∙◌, ap, sym, inl, inr, arith, ℕ, ◌+◌, ◌^◌, ◌<◌, List, [], length, get_or, set}
use Rattle.std.proofs.lemmas.Bool.{cases_lt}
use Rattle.std.proofs.lemmas.List.{get_or-set_other, get_or-set_same}
use Rattle.lm_ots.specs.declared.secret.OtsSecret.{OtsSecret}
use Rattle.lm_ots.specs.Signing.{public_key_of, secret_behind}
use Rattle.lms_tree.specs.KeyParts.{KeyParts}
use Rattle.lms_tree.specs.LmsKind.{height_of, leaves_of}
use Rattle.lms_tree.specs.Tree.{leaf_node}
use Rattle.lms_tree.specs.Key.{id_of, secret_of, node_at}
use Rattle.lms_tree.proofs.NodeLemmas.{node_at-leaf}
use Rattle.lms_tree.proofs.nodes.fill_four.Goals as goal

-- what one turn writes is T[r]
leaf-is : (key : KeyParts) (leaf r : ℕ) (id value one_time : List ℕ) (secret : OtsSecret) → r ≡ 2 ^ height_of key.lms + leaf → value ≡ leaf_node id r one_time → id ≡ id_of key.seed → one_time ≡ public_key_of secret → secret ≡ secret_of key leaf → value ≡ node_at key 0 r
leaf-is key leaf r id value one_time secret e value_is id_is one_time_is secret_is =
    value_is ∙ ap (λ i. leaf_node i r one_time) id_is
    ∙ ap (λ k. leaf_node (id_of key.seed) r k) (one_time_is ∙ ap public_key_of secret_is)
    ∙ sym (node_at-leaf key leaf r e)

pub loop-k-preserved : goal.loop-k-preserved
loop-k-preserved c =
    let key = c.args.parts.now in
    let nodes = c.loop-k.nodes in
    let k = c.loop-k.k in
    let first = c.args.first in
    let place = c.leaves.result + first + k in
    let value = c.leaf_node.result in
    let leaves = c.leaves.ensures ∙ ap leaves_of c.lms.ensures in
    let room : place < length nodes = omega (arith, leaves, c.requires.len, c.requires.within, c.loop-k.auto.nodes, c.loop-k-test.true) in
    let made = leaf-is key (first + k) place c.id.result.now value _ _ (omega (arith, leaves)) c.leaf_node.ensures c.id.ensures
    (c.four_ots_publics-keys.ensures k c.loop-k-test.true) (ap (λ secret. secret_behind secret k) c.secret.ensures) in
    record {
      before = λ r below.
          let other : r ≢ place = omega (arith, leaves) in
          get_or-set_other nodes place r value [] other ∙ c.loop-k.invariant.before r below;
      four = λ j within.
          elim (cases_lt j k) [
            | inl before ↦
                let other : leaves_of key.lms + first + j ≢ place = omega (arith, leaves) in
                get_or-set_other nodes place (leaves_of key.lms + first + j) value [] other ∙ c.loop-k.invariant.four j before
            | inr last ↦
                let at : leaves_of key.lms + first + j ≡ place = omega (arith, leaves) in
                ap (λ n. get_or (set nodes place value) n []) at ∙ get_or-set_same nodes place value [] room ∙ made
                ∙ ap (node_at key 0) (sym at)
          ];
    }
