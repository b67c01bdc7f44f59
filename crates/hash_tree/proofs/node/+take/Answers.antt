use Rattle.std.proofs.Common.{rules, ◌≡◌, ◌<◌, ◌+◌, ◌-◌, [], ap, sym, ◌∙◌, subst, length, arith}
use Rattle.std.specs.FinMap.{entries, remove, contains_key}
use Rattle.std.specs.Prelude.{IsTrue, is_some}
use Rattle.hash_tree.specs.declared.node.Node.TheVariants.{Leaf}
use Rattle.hash_tree.specs.Entries.{bit}
use Rattle.hash_tree.specs.Kept.{Keeps, map_of, map_both}
use Rattle.hash_tree.specs.Path.{steps_below}
use Rattle.hash_tree.proofs.Kept.{are_halves, parts_of, halves-kept_at, empty-kept, leaf-kept, leaf_only, empty_has_none, other_bit, steps-none}
use Rattle.hash_tree.proofs.Take.{cut-some, cut-only, cut-here, cut-elsewhere, cut-steps, there-below, left-alone, left-several, alone-steps, several-steps}
use Rattle.hash_tree.proofs.node.+take.Goals as goal

pub Branch::take-returns-then-is_none-clause-kept : goal.Branch::take-returns-then-is_none-clause-kept
Branch::take-returns-then-is_none-clause-kept g t c =
    left-several c.lone-lone.result _ c.args.depth _ c.lone-lone.ensures c.if-is_none.ensures c.join-self.ensures.digest c.requires.kept.0
    (cut-some (map_both c.args.self.now.left c.args.self.now.right) c.args.key.now c.requires.kept.1) c.take_below.ensures.left c.take_below.ensures.right

pub Branch::take-returns-then-is_none-clause-cost : goal.Branch::take-returns-then-is_none-clause-cost
Branch::take-returns-then-is_none-clause-cost g t c =
    let deeper = several-steps c.lone-lone.result c.take_below.new.self.left c.take_below.new.self.right c.args.depth (remove (map_both c.args.self.now.left c.args.self.now.right) c.args.key.now) c.args.key.now c.lone-lone.ensures c.if-is_none.ensures c.requires.kept.0
    (cut-some (map_both c.args.self.now.left c.args.self.now.right) c.args.key.now c.requires.kept.1) c.take_below.ensures.left c.take_below.ensures.right in
    omega (arith, deeper, c.take_below.ensures.cost, c.join-self.ensures.cost)

pub Branch::take-returns-else-is_none-clause-kept : goal.Branch::take-returns-else-is_none-clause-kept
Branch::take-returns-else-is_none-clause-kept g t c =
    left-alone c.lone-lone.result _ c.take_below.new.self.left c.take_below.new.self.right c.args.depth _ c.lone-lone.ensures c.if-is_none.ensures c.take_below.ensures.left c.take_below.ensures.right

pub Branch::take-returns-else-is_none-clause-cost : goal.Branch::take-returns-else-is_none-clause-cost
Branch::take-returns-else-is_none-clause-cost g t c =
    let none = alone-steps c.lone-lone.result c.take_below.new.self.left c.take_below.new.self.right c.args.depth (remove (map_both c.args.self.now.left c.args.self.now.right) c.args.key.now) c.args.key.now c.lone-lone.ensures c.if-is_none.ensures c.take_below.ensures.left c.take_below.ensures.right in
    omega (arith, none.0, none.1, c.take_below.ensures.cost)

pub Branch::take_below-take-requires : goal.Branch::take_below-take-requires
Branch::take_below-take-requires g t c κs within =
    let known = parts_of c.args.self.now.left c.args.self.now.right c.args.depth _ c.requires.kept in
    let at : bit c.args.key.now c.args.depth ≡ 0 = sym c.key_bit.ensures ∙ c.if-key_bit-eq0.true in
    let below : c.args.depth < 256 = known.below in
    (search rules, (search rules, (known.left_kept, (there-below 0 c.args.depth (map_both c.args.self.now.left c.args.self.now.right) _ c.args.key.now known.is_left at c.requires.there, omega arith))))

pub Branch::take_below-returns-then-key_bit-eq0-clause-left : goal.Branch::take_below-returns-then-key_bit-eq0-clause-left
Branch::take_below-returns-then-key_bit-eq0-clause-left g t c =
    let known = parts_of c.args.self.now.left c.args.self.now.right c.args.depth _ c.requires.kept in
    let at : bit c.args.key.now c.args.depth ≡ 0 = sym c.key_bit.ensures ∙ c.if-key_bit-eq0.true in
    cut-here 0 c.args.depth (map_both c.args.self.now.left c.args.self.now.right) _ _ c.args.key.now known.is_left c.take.ensures.kept

pub Branch::take_below-returns-then-key_bit-eq0-clause-right : goal.Branch::take_below-returns-then-key_bit-eq0-clause-right
Branch::take_below-returns-then-key_bit-eq0-clause-right g t c =
    let known = parts_of c.args.self.now.left c.args.self.now.right c.args.depth _ c.requires.kept in
    let at : bit c.args.key.now c.args.depth ≡ 0 = sym c.key_bit.ensures ∙ c.if-key_bit-eq0.true in
    cut-elsewhere 1 c.args.depth (map_both c.args.self.now.left c.args.self.now.right) _ c.args.key.now (λ e. omega (arith, e, at)) c.requires.kept.3

pub Branch::take_below-returns-then-key_bit-eq0-clause-cost : goal.Branch::take_below-returns-then-key_bit-eq0-clause-cost
Branch::take_below-returns-then-key_bit-eq0-clause-cost g t c =
    let known = parts_of c.args.self.now.left c.args.self.now.right c.args.depth _ c.requires.kept in
    let at : bit c.args.key.now c.args.depth ≡ 0 = sym c.key_bit.ensures ∙ c.if-key_bit-eq0.true in
    c.take.ensures.cost ∙ ap (λ n. c.args.steps.now + n) (cut-steps 0 c.args.depth (map_both c.args.self.now.left c.args.self.now.right) _ c.args.key.now (256 - (c.args.depth + 1)) known.is_left at)

pub Branch::take_below-take-requires-else-key_bit-eq0 : goal.Branch::take_below-take-requires-else-key_bit-eq0
Branch::take_below-take-requires-else-key_bit-eq0 g t c κs within =
    let known = parts_of c.args.self.now.left c.args.self.now.right c.args.depth _ c.requires.kept in
    let at : bit c.args.key.now c.args.depth ≡ 1 = other_bit c.args.key.now c.args.depth (λ e. c.if-key_bit-eq0.false (c.key_bit.ensures ∙ e)) in
    let below : c.args.depth < 256 = known.below in
    (search rules, (search rules, (known.right_kept, (there-below 1 c.args.depth (map_both c.args.self.now.left c.args.self.now.right) _ c.args.key.now known.is_right at c.requires.there, omega arith))))

pub Branch::take_below-returns-else-key_bit-eq0-clause-left : goal.Branch::take_below-returns-else-key_bit-eq0-clause-left
Branch::take_below-returns-else-key_bit-eq0-clause-left g t c =
    let known = parts_of c.args.self.now.left c.args.self.now.right c.args.depth _ c.requires.kept in
    let at : bit c.args.key.now c.args.depth ≡ 1 = other_bit c.args.key.now c.args.depth (λ e. c.if-key_bit-eq0.false (c.key_bit.ensures ∙ e)) in
    cut-elsewhere 0 c.args.depth (map_both c.args.self.now.left c.args.self.now.right) _ c.args.key.now (λ e. omega (arith, e, at)) c.requires.kept.2

pub Branch::take_below-returns-else-key_bit-eq0-clause-right : goal.Branch::take_below-returns-else-key_bit-eq0-clause-right
Branch::take_below-returns-else-key_bit-eq0-clause-right g t c =
    let known = parts_of c.args.self.now.left c.args.self.now.right c.args.depth _ c.requires.kept in
    let at : bit c.args.key.now c.args.depth ≡ 1 = other_bit c.args.key.now c.args.depth (λ e. c.if-key_bit-eq0.false (c.key_bit.ensures ∙ e)) in
    cut-here 1 c.args.depth (map_both c.args.self.now.left c.args.self.now.right) _ _ c.args.key.now known.is_right c.take-else-key_bit-eq0.ensures.kept

pub Branch::take_below-returns-else-key_bit-eq0-clause-cost : goal.Branch::take_below-returns-else-key_bit-eq0-clause-cost
Branch::take_below-returns-else-key_bit-eq0-clause-cost g t c =
    let known = parts_of c.args.self.now.left c.args.self.now.right c.args.depth _ c.requires.kept in
    let at : bit c.args.key.now c.args.depth ≡ 1 = other_bit c.args.key.now c.args.depth (λ e. c.if-key_bit-eq0.false (c.key_bit.ensures ∙ e)) in
    c.take-else-key_bit-eq0.ensures.cost ∙ ap (λ n. c.args.steps.now + n) (cut-steps 1 c.args.depth (map_both c.args.self.now.left c.args.self.now.right) _ c.args.key.now (256 - (c.args.depth + 1)) known.is_right at)

pub Node::take-unreachable-requires : goal.Node::take-unreachable-requires
Node::take-unreachable-requires g t c =
    let missing = empty_has_none c.args.self.now c.args.key.now c.in-Empty.is in
    let none = sym c.requires.there ∙ ap is_some missing in cc

pub Node::take-take-requires : goal.Node::take-take-requires
Node::take-take-requires g t c κs within =
    let same : map_of c.args.self.now ≡ map_both c.deref_mut.result.now.left c.deref_mut.result.now.right
    = ap map_of c.in-Branch.is ∙ sym (ap (λ b. map_both b.left b.right) c.deref_mut.ensures.value) in (
      search rules,
      (
        search rules,
        (
          rw c.deref_mut.ensures.value (are_halves c.args.self.now _ _ _ _ c.args.depth c.in-Branch.is c.requires.kept),
          subst (λ m. IsTrue (contains_key m c.args.key.now)) same c.requires.there,
        ),
      ),
    )

pub Node::take-returns-in-Leaf-clause-kept : goal.Node::take-returns-in-Leaf-clause-kept
Node::take-returns-in-Leaf-clause-kept g t c =
    empty-kept c.args.depth _ (cut-only _ _ c.args.key.now (leaf_only c.args.self.now c.in-Leaf.field-0 c.args.depth c.in-Leaf.is c.requires.kept) c.requires.there)

pub Node::take-returns-in-Leaf-clause-cost : goal.Node::take-returns-in-Leaf-clause-cost
Node::take-returns-in-Leaf-clause-cost g t c =
    let left : entries (remove (map_of c.args.self.now) c.args.key.now) ≡ [] = cut-only _ _ c.args.key.now (leaf_only c.args.self.now c.in-Leaf.field-0 c.args.depth c.in-Leaf.is c.requires.kept) c.requires.there in
    let none : length (steps_below (256 - c.args.depth) c.args.key.now (remove (map_of c.args.self.now) c.args.key.now)) ≡ 0 = steps-none _ _ _ (omega (arith, ap length left)) in
    omega arith

pub Node::take-returns-in-Some-clause-kept : goal.Node::take-returns-in-Some-clause-kept
Node::take-returns-in-Some-clause-kept g t c =
    let same : map_both c.deref_mut.result.now.left c.deref_mut.result.now.right ≡ map_of c.args.self.now
    = ap (λ b. map_both b.left b.right) c.deref_mut.ensures.value ∙ sym (ap map_of c.in-Branch.is) in
    subst (λ m. Keeps c.args.depth (Leaf c.in-Some.entry) (remove m c.args.key.now)) same
    (leaf-kept c.in-Some.entry c.args.depth _ c.in-Some.ensures.kept.0 c.in-Some.ensures.kept.1)

pub Node::take-returns-in_default-clause-kept : goal.Node::take-returns-in_default-clause-kept
Node::take-returns-in_default-clause-kept g t c =
    let same : map_both c.deref_mut.result.now.left c.deref_mut.result.now.right ≡ map_of c.args.self.now
    = ap (λ b. map_both b.left b.right) c.deref_mut.ensures.value ∙ sym (ap map_of c.in-Branch.is) in
    halves-kept_at _ _ _ _ c.args.depth _ _ (ap (λ m. remove m c.args.key.now) same) c.in_default.ensures.kept.0 c.in_default.ensures.kept.1
