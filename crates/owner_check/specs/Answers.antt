-- What an owner check answered, and what one answers that tells its book and the numbers of the asks that
-- fail.
use Rattle.std.specs.Prelude.{ℕ, ◌+◌, ◌==◌, Bool, true, false, if◌then◌else◌, List, [], ◌∷◌, ◌++◌, length, Option, IfSome, Result, Ok, Err}
use Rattle.std.specs.List.{list_any}
use Rattle.ar_base.specs.Gives.{GivesUnless}
use Rattle.owner_check.specs.Book.{has_pair, pair_of, with_pair, without_pair}
use Rattle.owner_check.specs.declared.pair.Pair.{Pair}
use Rattle.owner_check.specs.declared.answer.CheckAnswer.{CheckAnswer}
use Rattle.owner_check.specs.declared.answer.Outcome.{Outcome}
use Rattle.owner_check.specs.declared.answer.Outcome.TheVariants as outcome
use Rattle.owner_check.specs.declared.fault.AskFault.{AskFault}
use Rattle.owner_check.specs.declared.fault.AskFault.TheVariants as ask_fault

-- what a check tells of itself: its book, and the numbers of its asks that fail
pub record Told : Type 0 where
  pub book : List Pair
  pub fails : List ℕ

-- what contracts see of a check by a book: the book, and the answers that it gave
pub record Booked : Type 0 where
  pub book : List Pair
  pub answers : List CheckAnswer

-- and of one that fails on demand: that, the numbers of the asks that fail, and how many did
pub record Failing : Type 0 where
  pub booked : Booked
  pub fails : List ℕ
  pub faults : ℕ

-- the number of the next ask, where these answers were given: the first is 1
abbrev pub ask_number : List CheckAnswer → ℕ
ask_number answers = length answers + 1

-- whether the ask of this number is one that fails
abbrev pub fails_at : List ℕ → ℕ → Bool
fails_at fails number = list_any (λ n. n == number) fails

-- what the next ask comes to: it fails where its number is one that fails, and else says whether the
-- book has the name with the key
abbrev pub outcome_of : Told → List CheckAnswer → List ℕ → List ℕ → Outcome
outcome_of told answers name key =
    if fails_at told.fails (ask_number answers) then outcome.Failed
    else (if has_pair told.book name key then outcome.Yes else outcome.No)

-- an outcome, as the call answers it
abbrev pub answer_of : Outcome → Result Bool AskFault
answer_of outcome.Yes = Ok true
answer_of outcome.No = Ok false
answer_of outcome.Failed = Err ask_fault.Failed

-- the answers with one more behind them
abbrev pub with_answer : List CheckAnswer → List ℕ → List ℕ → Outcome → List CheckAnswer
with_answer answers name key what = answers ++ record { pair = pair_of name key; outcome = what } ∷ []

-- the answers behind an ask that answered so: one more, but for want of memory
abbrev pub after_ask : List CheckAnswer → List ℕ → List ℕ → Result Bool AskFault → List CheckAnswer
after_ask answers name key (Ok true) = with_answer answers name key outcome.Yes
after_ask answers name key (Ok false) = with_answer answers name key outcome.No
after_ask answers name key (Err ask_fault.Failed) = with_answer answers name key outcome.Failed
after_ask answers name key (Err ask_fault.Memory) = answers

-- An ask answers by what the check tells, or wants memory. Of a check that tells nothing it says nothing.
abbrev pub AnswersBy : Option Told → List CheckAnswer → List ℕ → List ℕ → Result Bool AskFault → Type 0
AnswersBy told answers name key result =
    IfSome told (λ t. GivesUnless ask_fault.Memory (λ yes. yes) result (answer_of (outcome_of t answers name key)))

-- what a check tells that learnt the name with the key
abbrev pub learnt : List ℕ → List ℕ → Told → Told
learnt name key told = record told { book = with_pair told.book name key }

-- what a check tells that forgot the name with the key
abbrev pub forgotten : List ℕ → List ℕ → Told → Told
forgotten name key told = record told { book = without_pair told.book name key }
