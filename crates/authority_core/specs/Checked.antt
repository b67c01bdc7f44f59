-- What a call of an authority says of its check, where that is there before the call and behind it.
use Rattle.std.specs.Prelude.{◌≡◌, ℕ, List, Option, IfSome, Result, Err, is_none}
use Rattle.ar_base.specs.Faults.{HasRisen}
use Rattle.owner_check.specs.Answers.{Told}
use Rattle.owner_check.specs.declared.answer.CheckAnswer as check
use Rattle.authority_core.specs.EndorseRow.{SaysAsTold}
use Rattle.authority_core.specs.Row.{answers_behind}
use Rattle.authority_core.specs.declared.entries.Approved.{Approved}
use Rattle.authority_core.specs.declared.refusal.AuthorityRefusal.{AuthorityRefusal}
use Rattle.authority_core.specs.declared.refusal.AuthorityRefusal.TheVariants.{CheckFault}

abbrev pub IfBoth : {C : Type 0} → Option C → Option C → (C → C → Type 0) → Type 0
IfBoth old new says = IfSome old (λ before. IfSome new (λ behind. says before behind))

-- what it tells is what this makes of what it told
abbrev pub TellsBy : {C : Type 0} → (Option Told → Option Told) → (C → Option Told) → Option C → Option C → Type 0
TellsBy by told old new = IfBoth old new (λ before behind. told behind ≡ by (told before))

-- what it tells is as before
abbrev pub TellsAsBefore : {C : Type 0} → (C → Option Told) → Option C → Option C → Type 0
TellsAsBefore told old new = TellsBy (λ t. t) told old new

-- its list of answers is as before
abbrev pub KeepsAnswers : {C : Type 0} → (C → List check.CheckAnswer) → Option C → Option C → Type 0
KeepsAnswers answers old new = IfBoth old new (λ before behind. answers behind ≡ answers before)

-- its list has one answer more, by which the call came to this result, where the call asked it; but for want of memory
abbrev pub KeepsAnswer : {C A : Type 0} → (C → List check.CheckAnswer) → Option C → Option C → Option Approved → Result A AuthorityRefusal → Type 0
KeepsAnswer answers old new asked result = IfBoth old new (λ before behind. answers behind ≡ answers_behind (answers before) asked result)

-- the call came to this result by what it tells, where the call asked it
abbrev pub IsAsTold : {C A : Type 0} → (C → Option Told) → (C → List check.CheckAnswer) → Option C → Option Approved → Result A AuthorityRefusal → Type 0
IsAsTold told answers old asked result = IfSome old (λ before. IfSome asked (λ a. SaysAsTold (told before) (answers before) a result))

-- What a call says of its check, where it came to this result: the check is there where it was, its list has one answer more
-- where it was asked, what it tells stays, and the result is by what it tells.
pub record ChecksBy {C A : Type 0} (told : C → Option Told) (answers : C → List check.CheckAnswer) (old new : Option C) (asked : Option Approved) (result : Result A AuthorityRefusal) : Type 0 where
  pub retired : is_none new ≡ is_none old
  pub kept : KeepsAnswer answers old new asked result
  pub same : TellsAsBefore told old new
  pub by : IsAsTold told answers old asked result

-- that it failed is said only where the count of its faults rose
abbrev pub FailsByFault : {C A : Type 0} → (C → ℕ) → Option C → Option C → Result A AuthorityRefusal → Type 0
FailsByFault faults old new result = result ≡ Err CheckFault → IfBoth old new (λ before behind. HasRisen (faults before) (faults behind))
