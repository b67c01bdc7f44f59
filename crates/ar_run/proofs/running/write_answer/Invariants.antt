use Rattle.std.proofs.Common.{◌≡◌, take}
use Rattle.ar_run.specs.Answers.{bytes_of}
use Rattle.std.specs.List.{flat_map}
use Rattle.ar_io.specs.Wrote.{Appended}
use Rattle.ar_run.proofs.running.write_answer.Given as goal

-- the lines so far were written, one behind the other; no write failed
abbrev pub invariant-loop-line : goal.invariant-loop-line
invariant-loop-line g l =
    Appended g.K.Sink.wrote l.fn.sink l.sink (flat_map bytes_of (take l.line-index l.line-items))
    × (g.K.Sink.faults l.sink ≡ g.K.Sink.faults l.fn.sink)
