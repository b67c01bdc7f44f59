-- The lines so far, and those of the messages that are left, are all lines.
use Rattle.std.proofs.Common.{◌≡◌, ◌+◌, ◌++◌, drop, map}
use Rattle.ar_run.specs.Answers.{bytes_of}
use Rattle.run_messages.specs.Telling.{message_lines}
use Rattle.run_messages.proofs.telling.put_messages.Given as goal

abbrev pub invariant-loop-place : goal.invariant-loop-place
invariant-loop-place g l =
    map bytes_of l.lines.items ++ message_lines (l.place + 1) (drop l.place l.world.pool) ≡ map bytes_of l.initial.lines.items ++ message_lines 1 l.world.pool
