use Rattle.std.proofs.Common.{◌≡◌, ◌+◌, drop}
use Rattle.ar_world.specs.Delivering.{due_from}
use Rattle.ar_world.proofs.world.World.due_in.Given as goal

abbrev pub invariant-loop-place : goal.invariant-loop-place
invariant-loop-place g l = due_from l.self (l.place + 1) (drop l.place l.messages) ≡ due_from l.self (l.front + 1) (drop l.front l.messages)
