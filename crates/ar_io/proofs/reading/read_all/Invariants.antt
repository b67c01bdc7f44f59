use Rattle.std.proofs.Common.{◌≡◌, ◌≤◌, ◌-◌, vec_len}
use Rattle.std.specs.Io.KnownBytes.{Consumes}
use Rattle.ar_io.proofs.reading.read_all.Given as goal

-- the bytes so far are what was taken, and no more than the limit; no read failed
abbrev pub invariant-loop-bytes : goal.invariant-loop-bytes
invariant-loop-bytes g l = Consumes (g.S.Source.left l.fn.source) (g.S.Source.left l.source) l.bytes.items
    × (vec_len l.bytes ≤ l.limit)
    × (g.S.Source.faults l.source ≡ g.S.Source.faults l.fn.source)

abbrev pub decreases-loop-bytes : goal.decreases-loop-bytes
decreases-loop-bytes g l = l.limit - vec_len l.bytes
