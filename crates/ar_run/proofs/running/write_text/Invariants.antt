-- What was written so far is what the text had before the rest; no write failed.
use Rattle.std.proofs.Common.{◌≡◌, ◌++◌, List, ℕ, length}
use Rattle.ar_io.specs.Wrote.{Appended}
use Rattle.ar_run.proofs.running.write_text.Given as goal

abbrev pub invariant-loop-rest : goal.invariant-loop-rest
invariant-loop-rest g l =
    ((front : List ℕ) × (l.fn.text ≡ front ++ l.rest) × Appended g.K.Sink.wrote l.fn.sink l.sink front)
    × (g.K.Sink.faults l.sink ≡ g.K.Sink.faults l.fn.sink)

abbrev pub decreases-loop-rest : goal.decreases-loop-rest
decreases-loop-rest g l = length l.rest
