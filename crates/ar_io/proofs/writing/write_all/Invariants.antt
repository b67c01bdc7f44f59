use Rattle.std.proofs.Common.{◌≡◌, ◌++◌, List, ℕ, length}
use Rattle.ar_io.specs.Wrote.{Appended}
use Rattle.ar_io.proofs.writing.write_all.Given as goal

-- what was written so far is what the piece had before the rest; no write failed
abbrev pub invariant-loop-rest : goal.invariant-loop-rest
invariant-loop-rest g l =
    ((front : List ℕ) × (l.fn.piece ≡ front ++ l.rest) × Appended g.K.Sink.wrote l.fn.sink l.sink front)
    × (g.K.Sink.faults l.sink ≡ g.K.Sink.faults l.fn.sink)

abbrev pub decreases-loop-rest : goal.decreases-loop-rest
decreases-loop-rest g l = length l.rest
