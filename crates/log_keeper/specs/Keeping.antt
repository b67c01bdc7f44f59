-- A log that is kept: what it sends for a text of its journal, and in which words its journal has an order.
use Rattle.std.specs.Prelude.{◌≡◌, ◌⊎◌, ℕ, List, Ok, Err, Some}
use Rattle.ar_message.specs.declared.sent.Sent.{Sent}
use Rattle.kept_party.specs.declared.done.Done.{Done}
use Rattle.key_roll.specs.Ring.{IsOfNext}
use Rattle.lms_tree.specs.declared.public_key.LmsPublic.{LmsPublic}
use Rattle.log_core.specs.Keyed.{AreBehind, IsOwn, signed_answer}
use Rattle.log_core.specs.Row.{row}
use Rattle.log_core.specs.State as log
use Rattle.log_journal.specs.Inputs.{input_in, input_text}
use Rattle.log_journal.specs.Steps.{LogStanding}
use Rattle.log_keeper.specs.declared.order.LogOrder.{LogOrder}
use Rattle.log_keeper.specs.declared.order.LogOrder.TheVariants as orders
use Rattle.log_core.below.log_sending.specs.declared.refusal.LogRefusal.{LogRefusal}
use Rattle.log_core.below.log_sending.specs.declared.refusal.LogRefusal.TheVariants.{Memory}

-- By an input it sends this, and becomes this: it may be asked so, its row answers, and what it sends is signed with the keys that it
-- has then, with its next one where it rolls.
pub record Steps (old : LogStanding) (input : log.Input) (sent : Sent) (new : LogStanding) : Type 0 where
  pub own : IsOwn old.keys input
  pub answer : signed_answer new.keys (row old.core input) ≡ Ok (new.core, sent)
  pub keys_are : AreBehind input old.keys new.keys

-- it takes the input that a text says
pub record takes (old : LogStanding) (text : List ℕ) (sent : Sent) (new : LogStanding) : Type 0 where
  pub input : log.Input
  pub says : input_in text ≡ Some input
  pub steps : Steps old input sent new

-- the text of an order, where a log stands so: that of its input, and of a roll that of one to its next key
abbrev pub says : LogStanding → LogOrder → List ℕ → Type 0
says party (orders.Take bytes) text = text ≡ input_text (log.takes bytes)
says party orders.Propose text = text ≡ input_text log.proposes
says party orders.Pass text = text ≡ input_text log.passes
says party orders.Roll text = (key : LmsPublic) × (IsOfNext party.keys key × (text ≡ input_text (log.rolls key)))

-- what was done by an input has its text for the journal, and is what taking that makes
abbrev pub DoneBy : LogStanding → log.Input → Done Sent → LogStanding → Type 0
DoneBy old input done new = (done.text ≡ Some (input_text input)) × takes old (input_text input) done.reply new

-- memory is wanting, or the row of the input refuses so
abbrev pub RefusesBy : LogStanding → log.Input → LogRefusal → Type 0
RefusesBy party input refusal = (refusal ≡ Memory) ⊎ (row party.core input ≡ Err refusal)

-- memory is wanting, or the row of a roll to its next key refuses so
abbrev pub RefusesRoll : LogStanding → LogRefusal → Type 0
RefusesRoll party refusal = (refusal ≡ Memory) ⊎ ((key : LmsPublic) × (IsOfNext party.keys key × (row party.core (log.rolls key) ≡ Err refusal)))

-- how an order is refused, where a log stands so
abbrev pub refuses : LogStanding → LogOrder → LogRefusal → Type 0
refuses party (orders.Take bytes) refusal = RefusesBy party (log.takes bytes) refusal
refuses party orders.Propose refusal = RefusesBy party log.proposes refusal
refuses party orders.Pass refusal = RefusesBy party log.passes refusal
refuses party orders.Roll refusal = RefusesRoll party refusal
