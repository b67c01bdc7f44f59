use Rattle.std.proofs.Common.{◌≡◌, Some, sym, subst}
use Rattle.std.specs.Prelude.{position}
use Rattle.ar_nodes.specs.Finding.{is_owner}
use Rattle.ar_world.specs.State.{World}
use Rattle.ar_world.proofs.Answered.{unattached}
use Rattle.ar_world.proofs.world.World.attach_at.Goals as goal

pub returns-in_err-attach : goal.returns-in_err-attach
returns-in_err-attach g c =
    let here = subst (λ (w : World). position (is_owner c.args.number) w.owners ≡ Some c.args.place) (sym c.self.view_is) c.requires.place in
    let kept = c.in_err-attach.ensures.err in
    rw (← c.self.view_is) (unattached _ _ _ c.index_mut.result.now _ _ _ _ here c.index_mut.ensures.value kept.0 kept.1)
