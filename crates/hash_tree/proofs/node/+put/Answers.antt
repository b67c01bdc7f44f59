use Rattle.std.proofs.Common.{rules, ◌≡◌, ◌<◌, ◌-◌, ap, sym, ◌∙◌, subst, length, arith}
use Rattle.std.specs.FinMap.{insert}
use Rattle.std.proofs.lemmas.Bool.Decides.{not_from_Decides}
use Rattle.std.proofs.lemmas.Slice.Eq.{bytes_eq-Decides}
use Rattle.std.proofs.lemmas.Result.{on_ok_weaker}
use Rattle.std.specs.Prelude.{is_some}
use Rattle.hash_tree.specs.Entries.{bit}
use Rattle.hash_tree.proofs.Few.{get-one}
use Rattle.hash_tree.specs.Kept.{AgreesWith, map_of, map_both}
use Rattle.hash_tree.specs.Path.{steps_below}
use Rattle.hash_tree.proofs.Kept.{are_halves, parts_of, halves-kept_at, halves-digest, leaf-kept, leaf_only, leaf_stored, other_bit, steps-one}
use Rattle.hash_tree.proofs.Put.{put-left, put-right, put-steps, put-none, put-over, agrees-side, on_ok_both}
use Rattle.hash_tree.proofs.node.+put.Goals as goal

pub Branch::put-returns-clause-digest : goal.Branch::put-returns-clause-digest
Branch::put-returns-clause-digest g t c =
    halves-digest _ c.put_below.new.self.left c.put_below.new.self.right c.args.depth _ c.join-self.ensures.digest c.in_ok-put_below.ensures.kept

pub Branch::put_below-put-requires : goal.Branch::put_below-put-requires
Branch::put_below-put-requires g t c κs within =
    let known = parts_of c.args.self.now.left c.args.self.now.right c.args.depth _ c.requires.kept in
    let below : c.args.depth < 256 = known.below in
    let at : bit c.args.entry.now.key c.args.depth ≡ 0 = sym c.key_bit.ensures ∙ c.if-key_bit-eq0.true in
    (search rules, (search rules, (known.left_kept, (agrees-side 0 c.args.depth c.args.entry.now.key _ _ at known.is_left c.requires.agrees, (c.requires.stored, omega arith)))))

pub Branch::put_below-returns-then-key_bit-eq0-clause-kept : goal.Branch::put_below-returns-then-key_bit-eq0-clause-kept
Branch::put_below-returns-then-key_bit-eq0-clause-kept g t c =
    let at : bit c.args.entry.now.key c.args.depth ≡ 0 = sym c.key_bit.ensures ∙ c.if-key_bit-eq0.true in
    on_ok_weaker c.put.result (put-left c.args.self.now.left _ c.args.self.now.right c.args.depth _ c.args.entry.now.key c.args.entry.now.value c.requires.kept at) c.put.ensures.kept

pub Branch::put_below-returns-then-key_bit-eq0-clause-cost : goal.Branch::put_below-returns-then-key_bit-eq0-clause-cost
Branch::put_below-returns-then-key_bit-eq0-clause-cost g t c =
    let known = parts_of c.args.self.now.left c.args.self.now.right c.args.depth _ c.requires.kept in
    let at : bit c.args.entry.now.key c.args.depth ≡ 0 = sym c.key_bit.ensures ∙ c.if-key_bit-eq0.true in
    let deeper = put-steps 0 c.args.depth (map_both c.args.self.now.left c.args.self.now.right) _ c.args.entry.now.key c.args.entry.now.value known.below known.many at known.is_left in
    on_ok_weaker c.put.result (λ e. omega (arith, e, deeper)) c.put.ensures.cost

pub Branch::put_below-put-requires-else-key_bit-eq0 : goal.Branch::put_below-put-requires-else-key_bit-eq0
Branch::put_below-put-requires-else-key_bit-eq0 g t c κs within =
    let known = parts_of c.args.self.now.left c.args.self.now.right c.args.depth _ c.requires.kept in
    let below : c.args.depth < 256 = known.below in
    let at : bit c.args.entry.now.key c.args.depth ≡ 1 = other_bit c.args.entry.now.key c.args.depth (λ e. c.if-key_bit-eq0.false (c.key_bit.ensures ∙ e)) in
    (search rules, (search rules, (known.right_kept, (agrees-side 1 c.args.depth c.args.entry.now.key _ _ at known.is_right c.requires.agrees, (c.requires.stored, omega arith)))))

pub Branch::put_below-returns-else-key_bit-eq0-clause-kept : goal.Branch::put_below-returns-else-key_bit-eq0-clause-kept
Branch::put_below-returns-else-key_bit-eq0-clause-kept g t c =
    let at : bit c.args.entry.now.key c.args.depth ≡ 1 = other_bit c.args.entry.now.key c.args.depth (λ e. c.if-key_bit-eq0.false (c.key_bit.ensures ∙ e)) in
    on_ok_weaker c.put-else-key_bit-eq0.result (put-right c.args.self.now.left c.args.self.now.right _ c.args.depth _ c.args.entry.now.key c.args.entry.now.value c.requires.kept at) c.put-else-key_bit-eq0.ensures.kept

pub Branch::put_below-returns-else-key_bit-eq0-clause-cost : goal.Branch::put_below-returns-else-key_bit-eq0-clause-cost
Branch::put_below-returns-else-key_bit-eq0-clause-cost g t c =
    let known = parts_of c.args.self.now.left c.args.self.now.right c.args.depth _ c.requires.kept in
    let at : bit c.args.entry.now.key c.args.depth ≡ 1 = other_bit c.args.entry.now.key c.args.depth (λ e. c.if-key_bit-eq0.false (c.key_bit.ensures ∙ e)) in
    let deeper = put-steps 1 c.args.depth (map_both c.args.self.now.left c.args.self.now.right) _ c.args.entry.now.key c.args.entry.now.value known.below known.many at known.is_right in
    on_ok_weaker c.put-else-key_bit-eq0.result (λ e. omega (arith, e, deeper)) c.put-else-key_bit-eq0.ensures.cost

pub Node::put-fork-requires : goal.Node::put-fork-requires
Node::put-fork-requires g t c =
    let only = leaf_only c.args.self.now c.in-Leaf.other c.args.depth c.in-Leaf.is c.requires.kept in
    let other = not_from_Decides _ (bytes_eq-Decides c.in-Leaf.other.key c.args.entry.now.key) (sym c.if-eq.ensures) in
    record {
      two = record {
        one_stored = c.requires.stored;
        other_stored = leaf_stored c.args.self.now c.in-Leaf.other c.args.depth c.in-Leaf.is c.requires.kept;
        differ = λ e. other (sym e);
        agree = c.requires.agrees c.in-Leaf.other.key (ap is_some (get-one _ _ only));
        in_key = c.requires.in_key;
      };
    }

pub Node::put-put-requires : goal.Node::put-put-requires
Node::put-put-requires g t c κs within =
    let same : map_of c.args.self.now ≡ map_both c.deref_mut.result.now.left c.deref_mut.result.now.right
    = ap map_of c.in-Branch.is ∙ sym (ap (λ b. map_both b.left b.right) c.deref_mut.ensures.value) in (
      search rules,
      (
        search rules,
        (
          rw c.deref_mut.ensures.value (are_halves c.args.self.now _ _ _ _ c.args.depth c.in-Branch.is c.requires.kept),
          (subst (AgreesWith c.args.depth c.args.entry.now.key) same c.requires.agrees, c.requires.stored),
        ),
      ),
    )

pub Node::put-returns-in-Empty-clause-kept : goal.Node::put-returns-in-Empty-clause-kept
Node::put-returns-in-Empty-clause-kept g t c =
    leaf-kept c.args.entry.now c.args.depth _ (put-none c.args.self.now c.args.entry.now.key c.args.entry.now.value c.in-Empty.is) c.requires.stored

pub Node::put-returns-in-Empty-clause-cost : goal.Node::put-returns-in-Empty-clause-cost
Node::put-returns-in-Empty-clause-cost g t c =
    let none : length (steps_below (256 - c.args.depth) c.args.entry.now.key (insert (map_of c.args.self.now) c.args.entry.now.key c.args.entry.now.value)) ≡ 0 = steps-one _ _ _ _ (put-none c.args.self.now c.args.entry.now.key c.args.entry.now.value c.in-Empty.is) in
    omega arith

pub Node::put-returns-then-eq-clause-kept : goal.Node::put-returns-then-eq-clause-kept
Node::put-returns-then-eq-clause-kept g t c =
    leaf-kept c.args.entry.now c.args.depth _
    (put-over c.args.self.now c.in-Leaf.other c.args.entry.now.key c.args.entry.now.value c.in-Leaf.is ((bytes_eq-Decides _ _).0 (sym c.if-eq.ensures))) c.requires.stored

pub Node::put-returns-then-eq-clause-cost : goal.Node::put-returns-then-eq-clause-cost
Node::put-returns-then-eq-clause-cost g t c =
    let none : length (steps_below (256 - c.args.depth) c.args.entry.now.key (insert (map_of c.args.self.now) c.args.entry.now.key c.args.entry.now.value)) ≡ 0
    = steps-one _ _ _ _ (put-over c.args.self.now c.in-Leaf.other c.args.entry.now.key c.args.entry.now.value c.in-Leaf.is ((bytes_eq-Decides _ _).0 (sym c.if-eq.ensures))) in
    omega arith

pub Node::put-returns-in-Branch-clause-kept : goal.Node::put-returns-in-Branch-clause-kept
Node::put-returns-in-Branch-clause-kept g t c =
    let same : map_both c.deref_mut.result.now.left c.deref_mut.result.now.right ≡ map_of c.args.self.now
    = ap (λ b. map_both b.left b.right) c.deref_mut.ensures.value ∙ sym (ap map_of c.in-Branch.is) in
    on_ok_both c.put.result
    (λ is halves. halves-kept_at _ _ _ _ c.args.depth _ _ (ap (λ m. insert m c.args.entry.now.key c.args.entry.now.value) same) is halves)
    c.put.ensures.digest c.put.ensures.kept
