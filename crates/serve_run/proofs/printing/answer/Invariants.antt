use Rattle.std.proofs.Common.{◌≡◌, ◌++◌, drop, map}
use Rattle.ar_run.specs.Answers.{bytes_of}
use Rattle.serve_run.specs.Answers.{reply_lines}
use Rattle.serve_run.proofs.printing.answer.Given as goal

abbrev pub invariant-loop-number : goal.invariant-loop-number
invariant-loop-number l =
    map bytes_of l.lines.items ++ reply_lines l.number (drop l.number l.replies) ≡ map bytes_of l.initial.lines.items ++ reply_lines 0 l.replies
