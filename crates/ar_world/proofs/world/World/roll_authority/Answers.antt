use Rattle.std.proofs.Common.{sym}
use Rattle.ar_world.proofs.Orders.{authority_rolled_there}
use Rattle.ar_world.proofs.world.World.roll_authority.Goals as goal

pub returns : goal.returns
returns g c =
    let made = authority_rolled_there _ c.args.self.now c.args.number c.index_mut.result.now c.authority_rolls_there.new.slot _ c.authority_rolls_there.result
    c.authority_rolls_there.new.pool.messages c.self.view_is c.in_ok-need_authority.ensures.known c.in_ok-need_authority.ensures.keyed (sym c.in_ok-need_room.ensures)
    c.index_mut.ensures.value c.authority_rolls_there.ensures in
    made
