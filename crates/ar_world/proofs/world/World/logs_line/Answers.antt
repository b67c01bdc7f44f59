use Rattle.ar_founding.proofs.FirstParties.{logs-kept}
use Rattle.ar_world.proofs.world.World.logs_line.Goals as goal

pub invariant_of-self : goal.invariant_of-self
invariant_of-self g c = record { keys = λ is. logs-kept c.self.inside.setup c.tell_logs.new.self c.args.count c.args.quorum c.in_ok-keys.keys c.in_ok-keys.ensures.keys c.tell_logs.ensures; known = λ far. absurd cc; serials = c.self.invariant.serials; few = c.self.invariant.few }
