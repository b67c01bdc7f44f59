use Rattle.std.proofs.Common.{sym}
use Rattle.ar_world.proofs.Learnt.{learns}
use Rattle.ar_world.proofs.world.World.learn_line.Goals as goal

pub returns : goal.returns
returns g c =
    let i = c.in_ok-said.ensures in
    rw (← c.self.view_is) (learns _ c.args.message c.in-Some.pooled.now c.as_slice-bytes.result.now _ _ _ _ (sym c.in-Some.ensures)
    (rw (← c.pooled.view_is) c.as_slice-bytes.ensures.value) i.genesis i.clients i.rolls i.said)
