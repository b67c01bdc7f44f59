use Rattle.std.proofs.Common.{sym}
use Rattle.ar_nodes.specs.log_core.Inputs.{input_of}
use Rattle.ar_world.proofs.Orders.{order_obeyed_there}
use Rattle.ar_world.proofs.world.World.log_order.Goals as goal

pub returns : goal.returns
returns g c =
    let made = order_obeyed_there _ c.args.self.now c.args.number c.args.what c.args.event (input_of c.args.input.now) c.index_mut.result.now c.log_obeys_there.new.slot _
    c.log_obeys_there.result c.log_obeys_there.new.pool.messages c.self.view_is c.in_ok-need_log.ensures.known (sym c.in_ok-need_room.ensures) c.index_mut.ensures.value c.log_obeys_there.ensures in
    made
