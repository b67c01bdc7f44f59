use Rattle.std.proofs.Common.{◌∙◌, ap, sym, subst}
use Rattle.hash_tree.specs.Kept.{Keeps}
use Rattle.hash_tree.proofs.Kept.{branch-copied}
use Rattle.hash_tree.proofs.node.Node.+copy.Goals as goal

pub returns-in_ok-new-in-Branch : goal.returns-in_ok-new-in-Branch
returns-in_ok-new-in-Branch t c = λ depth m k.
    let made = c.in_ok-new-in-Branch.ensures.ok in
    branch-copied c.args.self.now _ _ _ _ _ _ _ _ _ _ depth m c.in-Branch.is
    (ap (λ b. b.digest) made ∙ ap (λ b. b.digest) c.deref-in-Branch-2.ensures) (ap (λ b. b.left) made) (ap (λ b. b.right) made)
    (λ s n h. c.in_ok-left-in-Branch.ensures s n (subst (λ b. Keeps s b.left n) (sym c.deref.ensures) h))
    (λ s n h. c.in_ok-right-in-Branch.ensures s n (subst (λ b. Keeps s b.right n) (sym c.deref-in-Branch.ensures) h)) k
