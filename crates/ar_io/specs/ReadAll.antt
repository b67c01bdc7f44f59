-- What was taken from a source where not all of it could be read.
use Rattle.std.specs.Prelude.{◌≡◌, ◌+◌, ◌≤◌, ℕ, Option, List, length}
use Rattle.std.specs.Io.KnownBytes.{Consumes}
use Rattle.ar_io.specs.declared.faults.ReadFault.{ReadFault}
use Rattle.ar_io.specs.declared.faults.ReadFault.TheVariants.{Fault, Long, Memory}

-- so many bytes were taken before the fault: one more than the limit at `Long`, and none over it at the others
abbrev pub IsTakenCount : ℕ → ReadFault → ℕ → Type 0
IsTakenCount limit Fault count = count ≤ limit
IsTakenCount limit Long count = count ≡ limit + 1
IsTakenCount limit Memory count = count ≤ limit

-- a front of what was left was taken, of a length that the fault tells
abbrev pub Stopped : Option (List ℕ) → Option (List ℕ) → ℕ → ReadFault → Type 0
Stopped old new limit fault =
    (taken : List ℕ) × Consumes old new taken × IsTakenCount limit fault (length taken)
