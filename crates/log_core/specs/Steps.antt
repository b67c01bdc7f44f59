-- What it is that a step of a log is its row's.
use Rattle.std.specs.Prelude.{ℕ, List, Option, Some, None, Result, Ok, if◌then◌else◌}
use Rattle.std.specs.Result.{result_and, result_map_both}
use Rattle.ar_base.specs.Gives.{StepsUnless}
use Rattle.ar_message.specs.declared.unsigned.Unsigned.{Unsigned}
use Rattle.ar_message.specs.Filling.{nothing}
use Rattle.ar_statement.specs.declared.party.Party.{Party}
use Rattle.key_roll.specs.declared.fault.RollFault.{RollFault}
use Rattle.key_roll.specs.declared.fault.RollFault.TheVariants as roll_fault
use Rattle.party_keys.specs.declared.fault.LearnFault.{LearnFault}
use Rattle.party_keys.specs.declared.fault.LearnFault.TheVariants as learn_fault
use Rattle.party_keys.specs.declared.learning.Learned.{Learned}
use Rattle.epoch_log.specs.Ending.{may_end}
use Rattle.epoch_log.specs.State.{LogState, epoch_of}
use Rattle.log_sending.specs.Checks.{Check}
use Rattle.ar_base.specs.FirstFailing.{first_error}
use Rattle.log_core.specs.State.{LogAnswer, CoreState}
use Rattle.log_sending.specs.declared.refusal.LogRefusal.{LogRefusal}
use Rattle.log_sending.specs.declared.refusal.LogRefusal.TheVariants as refusals

-- the value where no check refuses, or the refusal of the first that does; of a row, what the step makes
abbrev pub given : {A : Type 0} → List Check → A → Result A LogRefusal
given checks value = result_and (first_error checks) (Ok value)

-- The row answers with what is sent and with the log as it is behind the step. After an error the log is as it was, and it
-- is the row's refusal, or want of memory.
abbrev pub IsStep : Result Unsigned LogRefusal → CoreState → CoreState → LogAnswer → Type 0
IsStep = StepsUnless refusals.Memory (λ after unsigned. record { unsigned = unsigned; after = after })

-- the epoch that ends, with the root with which it is decided, if it is, unless it is the last that a statement can name
abbrev pub ended_epoch : LogState → Option (List ℕ) → Option (ℕ × Option (List ℕ))
ended_epoch s root = if may_end s.past then Some (epoch_of s, root) else None

-- the refusal of a key that is not learnt
abbrev pub learn_refusal : LearnFault → Party → ℕ → LogRefusal
learn_refusal learn_fault.Unknown party generation = refusals.Unknown party
learn_refusal (learn_fault.Bad number) party generation = refusals.BadSignature party number
learn_refusal learn_fault.Other party generation = refusals.OtherRoll party generation
learn_refusal learn_fault.Memory party generation = refusals.Memory

-- what is answered to a note of a Roll, by what was learnt of it
abbrev pub noted : Result Learned LearnFault → Party → ℕ → Result Unsigned LogRefusal
noted answer party generation = result_map_both (λ how. nothing) (λ fault. learn_refusal fault party generation) answer

-- the refusal of a key that the log does not go on to
abbrev pub roll_refusal : RollFault → LogRefusal
roll_refusal roll_fault.Last = refusals.LastGeneration
roll_refusal roll_fault.Memory = refusals.Memory
