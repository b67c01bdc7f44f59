use Rattle.std.proofs.Common.{◌≡◌, ◌++◌, map, take}
use Rattle.ar_run.specs.Answers.{bytes_of}
use Rattle.review.specs.Telling.{conflict_line}
use Rattle.review.proofs.telling.tell_conflicts.Given as goal

-- the lines of the pairs in front stand behind the others
abbrev pub invariant-loop-conflict : goal.invariant-loop-conflict
invariant-loop-conflict l = map bytes_of l.lines.items ≡ map bytes_of l.initial.lines.items ++ map conflict_line (take l.conflict-index l.conflicts)
