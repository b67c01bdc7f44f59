use Rattle.std.proofs.Common.{rules, ℕ, ◌<◌, ◌^◌, subst, sym}
use Rattle.ar_world.proofs.FirstParties.{came}
use Rattle.ar_world.proofs.world.World.turn_log.Goals as goal

pub invariant_of-self-2 : goal.invariant_of-self-2
invariant_of-self-2 g c = record { keys = λ is. absurd cc; known = λ far. c.self.invariant.known (came c.self.inside.phase (search rules)); serials = c.self.invariant.serials; few = subst (λ (n : ℕ). n < 2 ^ 16) (sym c.take_log.ensures.len) c.self.invariant.few }
