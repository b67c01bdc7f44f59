use Rattle.std.proofs.Common.{sym}
use Rattle.ar_world.proofs.Deliveries.{delivered_to_authority}
use Rattle.ar_world.proofs.world.World.deliver_to_authority.Goals as goal

pub returns-clause-steps : goal.returns-clause-steps
returns-clause-steps g c =
    delivered_to_authority _ _ c.args.message c.args.number c.authorities_take.result _ _ _ c.self.view_is (sym c.in_ok-can_deliver_to_authority.ensures.can) c.authorities_take.ensures
