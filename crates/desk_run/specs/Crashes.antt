-- What a crash at any moment of a run leaves of a journal.
use Rattle.std.specs.Prelude.{◌≡◌, ◌⊎◌, ℕ, List, ◌++◌, Option, Some, Ok}
use Rattle.std.specs.Io.KnownBytes.{Consumes}
use Rattle.desk_run.specs.Answers.{AnswersFront, Kept, asked_of}
use Rattle.desk_run.specs.Lines.{CutsAt}
use Rattle.kept_journal.specs.Journal.{IsBeforeOrAfter, Stands}
use Rattle.party_desk.specs.Asking.{Wanted}

-- what a line asks where the party stands so, which text an order has, and what the party replies and becomes by a text
module _ {P Order Reply : Type 0} (asked : P → List ℕ → Wanted Order) (says : P → Order → List ℕ → Type 0) (takes : P → List ℕ → Reply → P → Type 0) where
  -- the line asks something, so it is not too long, and the party takes it by a text; the file stands for these texts, or for them and
  -- that one
  pub record LeavesLine (party : P) (line mark : List ℕ) (texts : Kept) (file : List ℕ) : Type 0 where
    pub order : Order
    pub asks : asked_of asked party line ≡ Ok (Some order)
    pub text : List ℕ
    pub its : says party order text
    pub reply : Reply
    pub later : P
    pub taken : takes party text reply later
    pub stands : IsBeforeOrAfter mark texts text file

  -- it stands for these texts, or the same of the line that an input begins with
  abbrev pub LeavesOne : P → List ℕ → List ℕ → Kept → List ℕ → Type 0
  LeavesOne party input mark texts file =
      Stands mark texts file ⊎ ((line : List ℕ) × ((behind : List ℕ) × (CutsAt input line behind × LeavesLine party line mark texts file)))

  -- A front of what came of a source was answered, and the file stands for the texts from before and those of this front, or also
  -- for the text of the line behind it.
  pub record LeavesFront (answers : P → ℕ → List ℕ → List ℕ → Kept → P → Type 0) (old : P) (first last : Option (List ℕ)) (mark : List ℕ) (texts : Kept)
      (file : List ℕ) : Type 0 where
    pub input : List ℕ
    pub came : Consumes first last input
    pub behind : List ℕ
    pub written : List ℕ
    pub more : Kept
    pub mid : P
    pub front : AnswersFront answers old input behind written more mid
    pub left : LeavesOne mid behind mark (texts ++ more) file
