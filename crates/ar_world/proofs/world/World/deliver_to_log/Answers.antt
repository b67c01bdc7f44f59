use Rattle.std.proofs.Common.{sym}
use Rattle.ar_world.proofs.Deliveries.{delivered_to_log}
use Rattle.ar_world.proofs.Seats.{kept_there}
use Rattle.ar_world.proofs.world.World.deliver_to_log.Goals as goal

pub invariant_of-self : goal.invariant_of-self
invariant_of-self g c = kept_there _ _ _ _ _ _ _ c.args.number _ c.logs_take.ensures c.self.invariant

pub returns-clause-steps : goal.returns-clause-steps
returns-clause-steps g c =
    delivered_to_log _ _ c.args.message c.args.number c.logs_take.result _ _ _ c.self.view_is (sym c.in_ok-can_deliver_to_log.ensures.can) c.logs_take.ensures
