use Rattle.std.proofs.Common.{rules}
use Rattle.ar_world.proofs.FirstParties.{came}
use Rattle.ar_world.proofs.world.World.turn_authority.Goals as goal

pub invariant_of-self-2 : goal.invariant_of-self-2
invariant_of-self-2 g c = record { keys = λ is. absurd cc; known = λ far. c.self.invariant.known (came c.self.inside.phase (search rules)); serials = c.self.invariant.serials; few = c.self.invariant.few }
