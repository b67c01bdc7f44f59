use Rattle.std.proofs.Common.{rules, ◌≡◌, ◌<◌, ◌+◌, ◌-◌, ◌++◌, ap, sym, ◌∙◌, length, append-nil, append_assoc, arith}
use Rattle.hash_tree.specs.Entries.{bit, half}
use Rattle.hash_tree.specs.Root.{subtree_digest}
use Rattle.hash_tree.specs.Kept.{map_of, map_both}
use Rattle.hash_tree.specs.Path.{bottom_below}
use Rattle.hash_tree.proofs.Paths.{steps-few, bottom-none}
use Rattle.hash_tree.proofs.Kept.{are_halves, halves_of, keeps-kept, keeps-map, digest-kept, leaf_only, empty_only, steps-parted, bottom-parted, bottom-only}
use Rattle.hash_tree.proofs.node.Node.+walk.Goals as goal

pub sides-requires : goal.sides-requires
sides-requires t c = rw c.deref.ensures (are_halves c.args.self.now _ _ _ _ c.args.depth c.in-Branch.is c.requires.kept)

pub overflow_add-depth : goal.overflow_add-depth
overflow_add-depth t c = let below : c.args.depth < 256 = (halves_of c.args.self.now _ _ _ _ c.args.depth c.in-Branch.is c.requires.kept).0 in search rules

pub walk-requires : goal.walk-requires
walk-requires t c =
    let below : c.args.depth < 256 = (halves_of c.args.self.now _ _ _ _ c.args.depth c.in-Branch.is c.requires.kept).0 in
    (search rules, keeps-kept _ _ _ c.sides.ensures.same)

pub returns-in-Empty-clause-bottom : goal.returns-in-Empty-clause-bottom
returns-in-Empty-clause-bottom t c =
    sym (bottom-none _ c.args.key.now _ (omega (arith, ap length (empty_only c.args.self.now c.in-Empty.is))))

pub returns-in-Empty-clause-steps : goal.returns-in-Empty-clause-steps
returns-in-Empty-clause-steps t c =
    rw (steps-few (256 - c.args.depth) c.args.key.now (map_of c.args.self.now) (omega (arith, ap length (empty_only c.args.self.now c.in-Empty.is)))) (sym (append-nil _))

pub returns-in-Leaf-clause-bottom : goal.returns-in-Leaf-clause-bottom
returns-in-Leaf-clause-bottom t c =
    sym (bottom-only (256 - c.args.depth) c.args.key.now _ _ (leaf_only c.args.self.now c.in-Leaf.entry c.args.depth c.in-Leaf.is c.requires.kept))

pub returns-in-Leaf-clause-steps : goal.returns-in-Leaf-clause-steps
returns-in-Leaf-clause-steps t c =
    rw (steps-few (256 - c.args.depth) c.args.key.now (map_of c.args.self.now)
    (omega (arith, ap length (leaf_only c.args.self.now c.in-Leaf.entry c.args.depth c.in-Leaf.is c.requires.kept)))) (sym (append-nil _))

pub returns-in_ok-push-in-Branch-clause-bottom : goal.returns-in_ok-push-in-Branch-clause-bottom
returns-in_ok-push-in-Branch-clause-bottom t c =
    let halves = halves_of c.args.self.now _ _ _ _ c.args.depth c.in-Branch.is c.requires.kept in
    let same : map_both c.deref.result.now.left c.deref.result.now.right ≡ map_of c.args.self.now
    = ap (λ b. map_both b.left b.right) c.deref.ensures ∙ sym (ap map_of c.in-Branch.is) in
    let below_is : map_of c.sides.result.0.now ≡ half c.args.depth (bit c.args.key.now c.args.depth) (map_of c.args.self.now)
    = keeps-map _ _ _ c.sides.ensures.same ∙ ap (half c.args.depth (bit c.args.key.now c.args.depth)) same in
    c.in_ok-bottom-in-Branch.ensures.bottom
    ∙ ap (bottom_below (256 - (c.args.depth + 1)) c.args.key.now) below_is
    ∙ sym (bottom-parted c.args.depth c.args.key.now (map_of c.args.self.now) halves.0 halves.1)

pub returns-in_ok-push-in-Branch-clause-steps : goal.returns-in_ok-push-in-Branch-clause-steps
returns-in_ok-push-in-Branch-clause-steps t c =
    let halves = halves_of c.args.self.now _ _ _ _ c.args.depth c.in-Branch.is c.requires.kept in
    let same : map_both c.deref.result.now.left c.deref.result.now.right ≡ map_of c.args.self.now
    = ap (λ b. map_both b.left b.right) c.deref.ensures ∙ sym (ap map_of c.in-Branch.is) in
    let below_is : map_of c.sides.result.0.now ≡ half c.args.depth (bit c.args.key.now c.args.depth) (map_of c.args.self.now)
    = keeps-map _ _ _ c.sides.ensures.same ∙ ap (half c.args.depth (bit c.args.key.now c.args.depth)) same in
    let other : c.digest.result ≡ subtree_digest (c.args.depth + 1) (half c.args.depth (1 - bit c.args.key.now c.args.depth) (map_of c.args.self.now))
    = c.digest.ensures ∙ digest-kept _ _ _ c.sides.ensures.other ∙ ap (λ m. subtree_digest (c.args.depth + 1) (half c.args.depth (1 - bit c.args.key.now c.args.depth) m)) same in
    c.in_ok-push-in-Branch.ensures.items
    ∙ rw (c.in_ok-bottom-in-Branch.ensures.steps, other, below_is)
    (append_assoc c.args.steps.now.items _ _ ∙ ap (λ s. c.args.steps.now.items ++ s) (sym (steps-parted c.args.depth c.args.key.now (map_of c.args.self.now) halves.0 halves.1)))
