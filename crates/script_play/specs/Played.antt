-- What is answered where an input is played, and what a run that plays its input takes and writes: over any runs of an input, each
-- made by a choice, as `play` makes one by what checks say that tell nothing of themselves.
use Rattle.std.specs.Prelude.{◌≡◌, ◌≤◌, ℕ, List, length, Option, Some, None, Result, IfOk}
use Rattle.ar_io.specs.Wrote.{Appended}
use Rattle.ar_world.specs.ar_nodes.Parties.{CheckParts}
use Rattle.ar_run.specs.Answers.{Answer}
use Rattle.ar_run.specs.Answers as answers
use Rattle.ar_run.specs.Runs.{TakesAll, most_read_bytes}
use Rattle.ar_run.specs.declared.fault.Fault.{Fault}
use Rattle.ar_world.specs.Run.{Run, Saying, lines_of_run, run, text_of_run}
use Rattle.ar_world.specs.declared.cause.Cause.{Cause}
use Rattle.arpki_ask.specs.Answers.{refused_line, too_long, unless_long}
use Rattle.script_play.specs.Playing.{AppendedUpTo, Played, WritesUpTo, played_of}

-- ---- a run

-- the status of a run: 3 where a line is refused
abbrev pub run_status : Option (ℕ × Cause) → ℕ
run_status None = 0
run_status (Some refusal) = 3

-- all lines that are written of a run, and its status
abbrev pub run_answer : Run → Answer
run_answer r = record { lines = lines_of_run r; status = run_status r.refused }

-- the runs of an input with these checks of owners: one for each choice of what those say that tell nothing of themselves
abbrev pub run_with : List CheckParts → (input : List ℕ) → Saying → Run
run_with checks input saying = run saying checks input

-- ---- an answer

-- This answer was written whole, and the status is its own.
abbrev pub IsAnswered : {K : Type 0} → Answer → (K → List ℕ → Type 0) → K → K → ℕ → Type 0
IsAnswered answer wrote sink written status = (status ≡ answer.status) × Appended wrote sink written (answers.written_of answer)

-- That the input is too long was written, with status 3; or memory ran out, or a write failed, and a front of it was written.
pub record RefusesLong {K : Type 0} (faults : K → ℕ) (wrote : K → List ℕ → Type 0) (old new : K) (result : Result ℕ Fault) : Type 0 where
  pub status : IfOk result (λ status. status ≡ 3)
  pub written : WritesUpTo faults wrote old new (answers.written_of (refused_line too_long)) result

-- ---- an input that is played

-- For each input there are some choices, and each makes a run of it.
module _ {S : List ℕ → Type 0} (runs : (input : List ℕ) → S input → Run) where
  -- what is answered where an input is played by a choice: all of its run, unless the input is too long
  abbrev pub answer_by : (input : List ℕ) → S input → Answer
  answer_by input choice = unless_long input (run_answer (runs input choice))

  -- A script was played to its end, or to the first line that is refused, and all of its run by some choice was written; or memory
  -- ran out, or a write failed, and a front of that was written.
  pub record Plays {K : Type 0} (faults : K → ℕ) (wrote : K → List ℕ → Type 0) (old new : K) (input : List ℕ) (result : Result Played Fault) : Type 0 where
    pub choice : S input
    pub played : IfOk result (λ p. p ≡ played_of (runs input choice))
    pub written : WritesUpTo faults wrote old new (text_of_run (runs input choice)) result

  -- An input was played, which may be too long: its answer by some choice was written whole, and the status is the answer's. Or
  -- memory ran out, or a write failed, and a front of the answer was written.
  pub record IsPlayed {K : Type 0} (faults : K → ℕ) (wrote : K → List ℕ → Type 0) (old new : K) (input : List ℕ) (result : Result ℕ Fault) : Type 0 where
    pub choice : S input
    pub status : IfOk result (λ status. status ≡ (answer_by input choice).status)
    pub written : WritesUpTo faults wrote old new (answers.written_of (answer_by input choice)) result

  -- An input was taken, and this holds of its answer by some choice; and unless it is too long, its run by that choice is safe.
  pub record PlaysTaken (IsSafe : Run → Type 0) (old new : Option (List ℕ)) (IsWritten : Answer → Type 0) : Type 0 where
    pub input : List ℕ
    pub choice : S input
    pub taken : TakesAll old new input
    pub written : IsWritten (answer_by input choice)
    pub safe : length input ≤ most_read_bytes → IsSafe (runs input choice)

  -- The input was taken, its answer was written whole, the status is the answer's, and the run is safe.
  abbrev pub PlaysWhole : {K : Type 0} → (Run → Type 0) → Option (List ℕ) → Option (List ℕ) → (K → List ℕ → Type 0) → K → K → ℕ → Type 0
  PlaysWhole IsSafe old new wrote sink written status = PlaysTaken IsSafe old new (λ answer. IsAnswered answer wrote sink written status)

  -- The input was taken, of its answer a front was written, or all, and the run is safe.
  abbrev pub PlaysFront : {K : Type 0} → (Run → Type 0) → Option (List ℕ) → Option (List ℕ) → (K → List ℕ → Type 0) → K → K → Type 0
  PlaysFront IsSafe old new wrote sink written = PlaysTaken IsSafe old new (λ answer. AppendedUpTo wrote sink written (answers.written_of answer))
