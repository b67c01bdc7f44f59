use Rattle.ar_world.proofs.world.World.secret_line.Goals as goal

pub invariant_of-self : goal.invariant_of-self
invariant_of-self g c = record { keys = λ is. absurd cc; known = λ far. absurd cc; serials = c.self.invariant.serials; few = c.self.invariant.few }
