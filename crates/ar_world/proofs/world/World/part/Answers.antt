use Rattle.ar_world.proofs.Seats.{kept_without}
use Rattle.ar_world.proofs.world.World.part.Goals as goal

pub invariant_of-world : goal.invariant_of-world
invariant_of-world g c = kept_without _ _ _ _ _ c.world.inside.logs.items _ (rw c.replace-logs.ensures.after c.new.ensures.items) c.world.invariant
