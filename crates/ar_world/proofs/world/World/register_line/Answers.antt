use Rattle.ar_world.proofs.Drafts.{registered}
use Rattle.ar_world.proofs.world.World.register_line.Goals as goal

pub returns : goal.returns
returns g c =
    let i = c.in_ok-place.ensures in
    registered _ c.args.self.now _ _ _ _ _ _ c.index.result.now _ i.place (rw (← c.self.view_is) c.index.ensures) i.ascend i.wait i.asks i.room c.in_ok-cert.ensures c.make_draft.ensures
