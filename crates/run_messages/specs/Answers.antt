-- What the program `arpki_messages` answers to words and an input, and what a run of it takes of its source and writes to its sink.
use Rattle.std.specs.Prelude.{ℕ, ◌≡◌, Bool, true, false, nat_lt, MatchBool, List, [], ◌∷◌, codes, length, Option}
use Rattle.ar_io.specs.Wrote.{Appended, AppendedFront}
use Rattle.script_play.specs.ar_nodes.Parties.{CheckParts}
use Rattle.ar_run.specs.Answers.{Answer, one_line, written_of}
use Rattle.ar_run.specs.Runs.{TakesAll, most_read_bytes}
use Rattle.script_play.specs.ar_world.Run.{Saying, run}
use Rattle.arpki_ask.specs.Answers.{refused_line, too_long}
use Rattle.run_messages.specs.Telling.{told_of}
use Rattle.script_play.specs.Playing.{played_of}

-- ---- words

-- the words are of form: there are none
abbrev pub is_form : {X : Type 0} → List X → Bool
is_form [] = true
is_form (word ∷ more) = false

-- the words are of no form: the usage line
abbrev pub usage : Answer
usage = one_line (codes "usage: arpki_messages") 2

-- ---- answers

-- what is told of the run of a script, with these checks of owners, by some answers of those that tell nothing of themselves
pub record IsToldOf (checks : List CheckParts) (script : List ℕ) (answer : Answer) : Type 0 where
  pub saying : Saying
  pub is : answer ≡ told_of (played_of (run saying checks script))

-- an answer to an input: that, unless it is too long
abbrev pub IsAnswer : List CheckParts → List ℕ → Answer → Type 0
IsAnswer checks input answer =
    MatchBool (nat_lt most_read_bytes (length input)) (answer ≡ refused_line too_long) (IsToldOf checks input answer)

-- ---- a run of the program

-- An input was taken, an answer to it was written whole, and the status is the answer's.
pub record TellsWhole {K : Type 0} (checks : List CheckParts) (old new : Option (List ℕ)) (wrote : K → List ℕ → Type 0) (sink written : K) (status : ℕ) : Type 0 where
  pub input : List ℕ
  pub answer : Answer
  pub taken : TakesAll old new input
  pub is_answer : IsAnswer checks input answer
  pub status_is : status ≡ answer.status
  pub written_is : Appended wrote sink written (written_of answer)

-- An input was taken, and of an answer to it a front was written, and not all.
pub record TellsFront {K : Type 0} (checks : List CheckParts) (old new : Option (List ℕ)) (wrote : K → List ℕ → Type 0) (sink written : K) : Type 0 where
  pub input : List ℕ
  pub answer : Answer
  pub taken : TakesAll old new input
  pub is_answer : IsAnswer checks input answer
  pub front : AppendedFront wrote sink written (written_of answer)

-- What was written whole: an answer to the input that was taken, or the usage line.
abbrev pub Answers : {K : Type 0} → Bool → List CheckParts → Option (List ℕ) → Option (List ℕ) → (K → List ℕ → Type 0) → K → K → ℕ → Type 0
Answers true checks old new wrote sink written status = TellsWhole checks old new wrote sink written status
Answers false checks old new wrote sink written status = (status ≡ 2) × Appended wrote sink written (written_of usage)

-- What a front was written of, and not all: such an answer, or the usage line.
abbrev pub BreaksOff : {K : Type 0} → Bool → List CheckParts → Option (List ℕ) → Option (List ℕ) → (K → List ℕ → Type 0) → K → K → Type 0
BreaksOff true checks old new wrote sink written = TellsFront checks old new wrote sink written
BreaksOff false checks old new wrote sink written = AppendedFront wrote sink written (written_of usage)
