use Rattle.std.proofs.Common.{rules, ◌≡◌, ◌<◌, ◌+◌, ◌-◌, ap, sym, ◌∙◌, subst, refl, length, arith}
use Rattle.hash_tree.specs.Entries.{bit}
use Rattle.hash_tree.specs.Kept.{Keeps, two_of}
use Rattle.hash_tree.specs.Path.{steps_below}
use Rattle.hash_tree.proofs.Kept.{branch-made, leaf-kept, empty-kept, other_bit, steps-deeper, steps-none}
use Rattle.hash_tree.proofs.Two.{two-below, two-several, half-both, half-none, half-one, half-other, half_few}
use Rattle.hash_tree.proofs.node.+fork.Goals as goal

pub fork-parted-requires : goal.fork-parted-requires
fork-parted-requires g t c κs within =
    let below : c.args.depth < 256 = two-below c.args.depth c.args.one.now c.args.other.now c.requires.two in
    (search rules, (search rules, (c.requires.two, below)))

pub fork-returns-clause-kept : goal.fork-returns-clause-kept
fork-returns-clause-kept g t c =
    let made = c.in_ok-new.ensures.ok in
    branch-made _ _ _ _ _ _ _ c.args.depth _ (ap (λ b. b.digest) made) (ap (λ b. b.left) made) (ap (λ b. b.right) made)
    c.join-digest.ensures.digest
    (two-below _ _ _ c.requires.two, two-several c.args.one.now c.args.other.now c.requires.two.differ, c.in_ok-left.ensures.left, c.in_ok-left.ensures.right)

pub fork-returns-clause-cost : goal.fork-returns-clause-cost
fork-returns-clause-cost g t c =
    let deeper = steps-deeper c.args.depth c.args.one.now.key (two_of c.args.one.now c.args.other.now) (two-below _ _ _ c.requires.two) (two-several c.args.one.now c.args.other.now c.requires.two.differ) in
    let before = c.in_ok-left.ensures.cost in
    let hashed = c.join-digest.ensures.cost in
    omega arith

pub parted-returns-in_ok-fork-in-0-eq0-clause-left : goal.parted-returns-in_ok-fork-in-0-eq0-clause-left
parted-returns-in_ok-fork-in-0-eq0-clause-left g t c =
    let a : bit c.args.one.now.key c.args.depth ≡ 0 = omega arith in
    let b : bit c.args.other.now.key c.args.depth ≡ 0 = omega arith in
    subst (Keeps (c.args.depth + 1) c.in_ok-fork-in-0-eq0.field-0) (sym (half-both c.args.depth 0 c.args.one.now c.args.other.now a b)) c.in_ok-fork-in-0-eq0.ensures.kept

pub parted-returns-in_ok-fork-in-0-eq0-clause-right : goal.parted-returns-in_ok-fork-in-0-eq0-clause-right
parted-returns-in_ok-fork-in-0-eq0-clause-right g t c =
    let a : bit c.args.one.now.key c.args.depth ≡ 0 = omega arith in
    let b : bit c.args.other.now.key c.args.depth ≡ 0 = omega arith in
    empty-kept (c.args.depth + 1) _ (half-none c.args.depth 1 c.args.one.now c.args.other.now (omega arith) (omega arith))

pub parted-returns-in_ok-fork-in-0-eq0-clause-cost : goal.parted-returns-in_ok-fork-in-0-eq0-clause-cost
parted-returns-in_ok-fork-in-0-eq0-clause-cost g t c =
    let a : bit c.args.one.now.key c.args.depth ≡ 0 = omega arith in
    let b : bit c.args.other.now.key c.args.depth ≡ 0 = omega arith in
    c.in_ok-fork-in-0-eq0.ensures.cost ∙ ap (λ m. c.args.steps.now + length (steps_below (256 - (c.args.depth + 1)) c.args.one.now.key m)) (sym (half-both c.args.depth (bit c.args.one.now.key c.args.depth) c.args.one.now c.args.other.now refl (b ∙ sym a)))

pub parted-returns-in-0-default-clause-left : goal.parted-returns-in-0-default-clause-left
parted-returns-in-0-default-clause-left g t c =
    let a : bit c.args.one.now.key c.args.depth ≡ 0 = omega arith in
    let b : bit c.args.other.now.key c.args.depth ≡ 1 = other_bit c.args.other.now.key c.args.depth (omega arith) in
    leaf-kept c.args.one.now (c.args.depth + 1) _ (half-one c.args.depth 0 c.args.one.now c.args.other.now a (omega arith)) c.requires.two.one_stored

pub parted-returns-in-0-default-clause-right : goal.parted-returns-in-0-default-clause-right
parted-returns-in-0-default-clause-right g t c =
    let a : bit c.args.one.now.key c.args.depth ≡ 0 = omega arith in
    let b : bit c.args.other.now.key c.args.depth ≡ 1 = other_bit c.args.other.now.key c.args.depth (omega arith) in
    leaf-kept c.args.other.now (c.args.depth + 1) _ (half-other c.args.depth 1 c.args.one.now c.args.other.now (omega arith) b) c.requires.two.other_stored

pub parted-returns-in-0-default-clause-cost : goal.parted-returns-in-0-default-clause-cost
parted-returns-in-0-default-clause-cost g t c =
    let a : bit c.args.one.now.key c.args.depth ≡ 0 = omega arith in
    let b : bit c.args.other.now.key c.args.depth ≡ 1 = other_bit c.args.other.now.key c.args.depth (omega arith) in
    let none = steps-none (256 - (c.args.depth + 1)) c.args.one.now.key _ (half_few c.args.depth (bit c.args.one.now.key c.args.depth) c.args.one.now c.args.other.now refl (omega arith)) in omega arith

pub parted-returns-in_default-eq0-clause-left : goal.parted-returns-in_default-eq0-clause-left
parted-returns-in_default-eq0-clause-left g t c =
    let a : bit c.args.one.now.key c.args.depth ≡ 1 = other_bit c.args.one.now.key c.args.depth (omega arith) in
    let b : bit c.args.other.now.key c.args.depth ≡ 0 = omega arith in
    leaf-kept c.args.other.now (c.args.depth + 1) _ (half-other c.args.depth 0 c.args.one.now c.args.other.now (omega arith) b) c.requires.two.other_stored

pub parted-returns-in_default-eq0-clause-right : goal.parted-returns-in_default-eq0-clause-right
parted-returns-in_default-eq0-clause-right g t c =
    let a : bit c.args.one.now.key c.args.depth ≡ 1 = other_bit c.args.one.now.key c.args.depth (omega arith) in
    let b : bit c.args.other.now.key c.args.depth ≡ 0 = omega arith in
    leaf-kept c.args.one.now (c.args.depth + 1) _ (half-one c.args.depth 1 c.args.one.now c.args.other.now a (omega arith)) c.requires.two.one_stored

pub parted-returns-in_default-eq0-clause-cost : goal.parted-returns-in_default-eq0-clause-cost
parted-returns-in_default-eq0-clause-cost g t c =
    let a : bit c.args.one.now.key c.args.depth ≡ 1 = other_bit c.args.one.now.key c.args.depth (omega arith) in
    let b : bit c.args.other.now.key c.args.depth ≡ 0 = omega arith in
    let none = steps-none (256 - (c.args.depth + 1)) c.args.one.now.key _ (half_few c.args.depth (bit c.args.one.now.key c.args.depth) c.args.one.now c.args.other.now refl (omega arith)) in omega arith

pub parted-returns-in_ok-fork-in_default-clause-left : goal.parted-returns-in_ok-fork-in_default-clause-left
parted-returns-in_ok-fork-in_default-clause-left g t c =
    let a : bit c.args.one.now.key c.args.depth ≡ 1 = other_bit c.args.one.now.key c.args.depth (omega arith) in
    let b : bit c.args.other.now.key c.args.depth ≡ 1 = other_bit c.args.other.now.key c.args.depth (omega arith) in
    empty-kept (c.args.depth + 1) _ (half-none c.args.depth 0 c.args.one.now c.args.other.now (omega arith) (omega arith))

pub parted-returns-in_ok-fork-in_default-clause-right : goal.parted-returns-in_ok-fork-in_default-clause-right
parted-returns-in_ok-fork-in_default-clause-right g t c =
    let a : bit c.args.one.now.key c.args.depth ≡ 1 = other_bit c.args.one.now.key c.args.depth (omega arith) in
    let b : bit c.args.other.now.key c.args.depth ≡ 1 = other_bit c.args.other.now.key c.args.depth (omega arith) in
    subst (Keeps (c.args.depth + 1) c.in_ok-fork-in_default.field-0) (sym (half-both c.args.depth 1 c.args.one.now c.args.other.now a b)) c.in_ok-fork-in_default.ensures.kept

pub parted-returns-in_ok-fork-in_default-clause-cost : goal.parted-returns-in_ok-fork-in_default-clause-cost
parted-returns-in_ok-fork-in_default-clause-cost g t c =
    let a : bit c.args.one.now.key c.args.depth ≡ 1 = other_bit c.args.one.now.key c.args.depth (omega arith) in
    let b : bit c.args.other.now.key c.args.depth ≡ 1 = other_bit c.args.other.now.key c.args.depth (omega arith) in
    c.in_ok-fork-in_default.ensures.cost ∙ ap (λ m. c.args.steps.now + length (steps_below (256 - (c.args.depth + 1)) c.args.one.now.key m)) (sym (half-both c.args.depth (bit c.args.one.now.key c.args.depth) c.args.one.now c.args.other.now refl (b ∙ sym a)))
