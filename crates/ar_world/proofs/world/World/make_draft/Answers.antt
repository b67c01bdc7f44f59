use Rattle.std.proofs.Common.{◌≤◌, length, sym, subst}
use Rattle.ar_world.specs.State.{World}
use Rattle.ar_world.proofs.Drafts.{kept_after}
use Rattle.ar_world.proofs.world.World.make_draft.Goals as goal

pub invariant_of-self : goal.invariant_of-self
invariant_of-self g c =
    let low = subst (λ (w : World). c.args.cert.serial ≤ length w.drafts) (sym c.self.view_is) c.requires.serial in
    kept_after c.draft.result _ _ _ _ _ _ _ _ _ _ _ _ c.draft.ensures.drafts c.draft.ensures.err c.self.invariant low
