use Rattle.std.proofs.Common.{◌∙◌, true, ap}
use Rattle.cert_drafts.specs.Certificates.{next_certificate}
use Rattle.lms_tree.specs.Key.{public_of}
use Rattle.ar_world.specs.State.{Drafted}
use Rattle.ar_world.proofs.Drafts.{revoked}
use Rattle.ar_world.proofs.world.World.revoke_line.Goals as goal

pub returns : goal.returns
returns g c =
    let i = c.in_ok-place.ensures in
    let same = c.in_ok-cert.ensures ∙ ap (λ (d : Drafted). next_certificate (public_of c.index-2.result.now.key) d.cert d.cert.policy true) c.behind-self.view_is in
    revoked _ c.args.self.now _ _ _ _ _ _ c.index-2.result.now c.index.result.now _ i.place (rw (← c.self.view_is) c.index-2.ensures) i.draft i.found (rw (← c.self.view_is) c.index.ensures) i.asks i.room same c.make_draft.ensures
