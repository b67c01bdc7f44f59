use Rattle.std.proofs.Common.{◌≡◌, get_or, is_some, true, sym}
use Rattle.ar_nodes.specs.Pool.{numbered}
use Rattle.ar_world.proofs.Deliveries.{delivered_to_owner}
use Rattle.ar_world.proofs.world.World.deliver_to_owner.Goals as goal

pub returns-clause-steps : goal.returns-clause-steps
returns-clause-steps g c =
    let some : is_some (numbered c.self.inside.pool.messages c.args.message) ≡ true = cc in
    let me = c.index_mut-owner.result.now in
    let here : me ≡ get_or c.self.inside.owners.items c.in_ok-place.place me = cc in
    delivered_to_owner _ _ c.args.message c.args.number c.in_ok-place.place me c.owner_takes.result c.owner_takes.new.owner _ c.self.view_is some c.in_ok-place.ensures.place here
    (sym c.in_ok-need_room.ensures) c.owner_takes.ensures
