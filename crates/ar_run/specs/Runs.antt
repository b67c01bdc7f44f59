-- What a run takes of its source, and what it leaves in its sink.
use Rattle.std.specs.Prelude.{◌≡◌, ◌+◌, ◌<◌, ◌≤◌, ℕ, List, length, Option, Some, None, Vec}
use Rattle.std.specs.declared.alloc.Global.{Global}
use Rattle.std.specs.Io.KnownBytes.{Consumes, IsAtEnd}
use Rattle.ar_io.specs.Wrote.{Appended, AppendedFront}
use Rattle.ar_run.specs.Answers.{Answer, written_of}
use Rattle.ar_run.specs.declared.fault.Fault.{Fault}
use Rattle.ar_run.specs.declared.fault.Fault.TheVariants as fault

-- the bytes of the longest input
abbrev pub most_read_bytes : ℕ
most_read_bytes = 1048576

-- The bytes were taken of a source, to its end where an input may be so long. Of a longer one no more
-- than one byte past that was taken.
pub record TakesAll (old new : Option (List ℕ)) (input : List ℕ) : Type 0 where
  pub taken : Consumes old new input
  pub ended : length input ≤ most_read_bytes → IsAtEnd new
  pub bounded : length input ≤ most_read_bytes + 1

-- some bytes were taken of a source, at most so many
abbrev pub TakesAtMost : ℕ → Option (List ℕ) → Option (List ℕ) → Type 0
TakesAtMost most old new = (bytes : List ℕ) × Consumes old new bytes × (length bytes ≤ most)

-- what is there of an input that was read: all of it, unless it is too long
abbrev pub IsInput : Option (Vec ℕ Global) → List ℕ → Type 0
IsInput (Some all) input = (all.items ≡ input) × (length input ≤ most_read_bytes)
IsInput None input = most_read_bytes < length input

-- an input was taken, and this is there of it
abbrev pub ReadsInput : Option (List ℕ) → Option (List ℕ) → Option (Vec ℕ Global) → Type 0
ReadsInput old new all = (input : List ℕ) × TakesAll old new input × IsInput all input

-- The input was taken, the answer to it was written whole, and the status is the answer's.
abbrev pub Answers : {K : Type 0} → (List ℕ → Answer) → Option (List ℕ) → Option (List ℕ) → (K → List ℕ → Type 0) → K → K → ℕ → Type 0
Answers answer_to old new wrote sink written status =
    (input : List ℕ) × TakesAll old new input × (status ≡ (answer_to input).status)
    × Appended wrote sink written (written_of (answer_to input))

-- The input was taken, and of the answer to it a front was written, and not all.
abbrev pub BreaksOff : {K : Type 0} → (List ℕ → Answer) → Option (List ℕ) → Option (List ℕ) → (K → List ℕ → Type 0) → K → K → Type 0
BreaksOff answer_to old new wrote sink written =
    (input : List ℕ) × TakesAll old new input × AppendedFront wrote sink written (written_of (answer_to input))

-- the status of a fault
abbrev pub fault_status : Fault → ℕ
fault_status fault.Source = 4
fault_status fault.Sink = 5
fault_status fault.Memory = 6
