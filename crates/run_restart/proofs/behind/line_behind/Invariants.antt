-- The number of the next line, and how many are left, are together the number behind the last.
use Rattle.std.proofs.Common.{◌≡◌, ◌+◌, length}
use Rattle.run_restart.specs.Answers.{line_behind}
use Rattle.run_restart.proofs.behind.line_behind.Given as goal

abbrev pub invariant-loop-refusal : goal.invariant-loop-refusal
invariant-loop-refusal l = l.lines.next + length l.lines.ahead ≡ line_behind l.input

abbrev pub decreases-loop-refusal : goal.decreases-loop-refusal
decreases-loop-refusal l = length l.lines.ahead
