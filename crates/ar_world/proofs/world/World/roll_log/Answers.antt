use Rattle.std.proofs.Common.{sym}
use Rattle.ar_world.proofs.Orders.{log_rolled_there}
use Rattle.ar_world.proofs.world.World.roll_log.Goals as goal

pub returns : goal.returns
returns g c =
    let made = log_rolled_there _ c.args.self.now c.args.number c.index_mut.result.now c.log_rolls_there.new.slot _ c.log_rolls_there.result c.log_rolls_there.new.pool.messages
    c.self.view_is c.in_ok-need_log.ensures.known c.in_ok-need_log.ensures.keyed (sym c.in_ok-need_room.ensures) c.index_mut.ensures.value c.log_rolls_there.ensures in
    made
