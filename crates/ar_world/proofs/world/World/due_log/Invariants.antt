use Rattle.std.proofs.Common.{◌≡◌, ◌-◌}
use Rattle.ar_world.proofs.Due.{due_logs}
use Rattle.ar_world.proofs.world.World.due_log.Given as goal

abbrev pub invariant-loop-number : goal.invariant-loop-number
invariant-loop-number g l = due_logs l.self l.message l.number (l.count - l.number) ≡ due_logs l.self l.message 0 l.count
