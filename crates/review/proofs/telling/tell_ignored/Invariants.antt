use Rattle.std.proofs.Common.{◌≡◌, ◌++◌, map, take}
use Rattle.ar_run.specs.Answers.{bytes_of}
use Rattle.review.specs.Telling.{ignored_line}
use Rattle.review.proofs.telling.tell_ignored.Given as goal

-- the lines of the items in front stand behind the others
abbrev pub invariant-loop-item : goal.invariant-loop-item
invariant-loop-item l = map bytes_of l.lines.items ≡ map bytes_of l.initial.lines.items ++ map ignored_line (take l.item-index l.ignored)
