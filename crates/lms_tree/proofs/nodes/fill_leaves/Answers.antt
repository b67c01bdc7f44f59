use Rattle.std.proofs.Common.{◌≡◌, ◌∙◌, ap, sym, inl, inr, arith, ◌+◌, ◌-◌, ◌*◌, ◌^◌, [], get_or}
use Rattle.std.proofs.lemmas.Bool.{cases_lt}
use Rattle.lms_tree.specs.LmsKind.{height_of, leaves_of}
use Rattle.lms_tree.specs.Key.{node_at}
use Rattle.lms_tree.proofs.NodeLemmas.{height-of-leaf, leaves-by-four}
use Rattle.lms_tree.proofs.nodes.fill_leaves.Goals as goal

pub loop-group-preserved : goal.loop-group-preserved
loop-group-preserved c = λ r low high.
    let key = c.args.parts.now in
    let first = leaves_of key.lms + 4 * c.loop-group.group in
    elim (cases_lt r first) [
      | inl before ↦ c.fill_four.ensures.before r before ∙ c.loop-group.invariant r low before
      | inr behind ↦
          let place : first + (r - first) ≡ r = omega arith in
          ap (λ n. get_or c.fill_four.new.nodes n []) (sym place) ∙ c.fill_four.ensures.four (r - first) (omega arith)
          ∙ ap (node_at key 0) place
    ]

pub returns : goal.returns
returns c = λ depth height r at low.
    let key = c.args.parts.now in
    let leaves = c.leaves-group-end.ensures ∙ ap leaves_of c.lms.ensures in
    let ground = height-of-leaf key depth height r at low in
    let deepest : 2 ^ depth ≡ 2 ^ height_of key.lms =
    let e : depth ≡ height_of key.lms = omega (arith, at.0) in ap (λ n. 2 ^ n) e in
    c.loop-group.invariant r low (omega (arith, at.2, deepest, leaves, leaves-by-four key.lms, c.loop-group-test.false))
    ∙ ap (λ k. node_at key k r) (sym ground)
