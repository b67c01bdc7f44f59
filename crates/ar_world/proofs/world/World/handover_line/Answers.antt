use Rattle.std.proofs.Common.{◌∙◌, sym, ap}
use Rattle.ar_cert.specs.Certificate.{digest_of}
use Rattle.ar_world.specs.State.{Drafted}
use Rattle.ar_world.proofs.Answered.{handed_line}
use Rattle.ar_world.proofs.world.World.handover_line.Goals as goal

pub returns : goal.returns
returns g c =
    let i = c.in_ok-place.ensures in
    let held = ap (λ (d : Drafted). d.owner) (sym c.found.view_is) in
    let same = ap (λ (d : Drafted). digest_of d.cert) (sym c.found.view_is) ∙ sym c.digest-digest.ensures in
    handed_line _ c.args.self.now _ _ _ _ _ c.found.inside.owner c.index-found.result.now c.digest-digest.result i.place i.within i.draft i.found (rw (← c.self.view_is) c.index-found.ensures) held same c.hand_over.ensures
