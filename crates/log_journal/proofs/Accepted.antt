-- What a step of a log says of its input.
use Rattle.std.proofs.Common.{◌≡◌, ◌⊎◌, ◌≢◌, ℕ, List, Ok, Err, ⊎_elim, inr, subst}
use Rattle.ar_message.specs.declared.sent.Sent.{Sent}
use Rattle.lms_tree.specs.KeyParts.{KeyParts}
use Rattle.kept_disk.specs.Moments.{LeavesOnly}
use Rattle.kept_journal.proofs.Moments.{weaker}
use Rattle.kept_journal.specs.Journal.{IsBeforeOrAfter}
use Rattle.log_core.specs.Keyed.{AreBehind, IsOwn, KeyedLogParts, signed_answer}
use Rattle.log_journal.proofs.Replayed.{reply_of, steps_of}
use Rattle.log_journal.proofs.Spelled.{says_it}
use Rattle.log_journal.specs.Steps.{standing_of}
use Rattle.log_journal.specs.Steps as steps
use Rattle.log_core.proofs.Short.{row-short}
use Rattle.log_core.specs.Row.{row}
use Rattle.log_core.specs.State.{LogAnswer, CoreState, Input, LogStep, passes, proposes, rolls, takes}
use Rattle.log_journal.specs.Inputs.{IsShortInput, IsWhole, input_text, mark}
use Rattle.log_core.below.log_sending.specs.declared.refusal.LogRefusal.{LogRefusal}
use Rattle.log_core.below.log_sending.specs.declared.refusal.LogRefusal.TheVariants.{Memory}

-- an input that is taken is short enough for a record
pub short_input : (s : CoreState) (input : Input) (reply : LogStep) → row s input ≡ Ok reply → IsShortInput input
short_input s (takes bytes) reply answer = row-short s bytes reply answer
short_input s proposes reply answer = tt
short_input s passes reply answer = tt
short_input s (rolls key) reply answer = tt

-- a refusal that is not want of memory is the row's
pub of_row : (answer : LogAnswer) (refusal : LogRefusal) → (refusal ≡ Memory) ⊎ (answer ≡ Err refusal) → refusal ≢ Memory → answer ≡ Err refusal
of_row answer refusal how other = ⊎_elim (λ memory. absurd (other memory)) (λ is. is) how

-- an input that was answered is short enough for a record
pub sent_short : (keys : List KeyParts) (s new : CoreState) (input : Input) (sent : Sent) → signed_answer keys (row s input) ≡ Ok (new, sent) → IsShortInput input
sent_short keys s new input sent answer = let r = reply_of keys (row s input) new sent answer in short_input s input r.0 r.1

-- a step that was answered takes the text of its input
pub taken : (old new : KeyedLogParts) (input : Input) (sent : Sent) → IsWhole input → IsOwn old.ring.keys input
    → signed_answer new.ring.keys (row old.core input) ≡ Ok (new.core, sent) → AreBehind input old.ring.keys new.ring.keys
    → steps.takes (standing_of old) (input_text input) (standing_of new)
taken old new input sent whole own answer behind =
    record { input = input; says = says_it input whole; steps = steps_of (standing_of old) (standing_of new) input sent own answer behind }

-- what an append leaves at each moment, of a journal with a log's mark
pub step_moment : {D : Type 0} (moment : D → ℕ) (left_since : D → ℕ → List ℕ → Type 0) (may_leave : D → List ℕ → Type 0) (old new : D) (of : List ℕ)
    (texts : List (List ℕ)) (put text : List ℕ) → of ≡ mark → put ≡ text → LeavesOnly moment left_since old new (IsBeforeOrAfter of texts put)
    → LeavesOnly moment left_since old new (λ c. may_leave old c ⊎ IsBeforeOrAfter mark texts text c)
step_moment moment left_since may_leave old new of texts put text marked is run =
    weaker moment left_since old new (IsBeforeOrAfter of texts put) (λ c. may_leave old c ⊎ IsBeforeOrAfter mark texts text c) run
    (λ c left. inr (subst (λ (m : List ℕ). IsBeforeOrAfter m texts text c) marked (subst (λ (t : List ℕ). IsBeforeOrAfter of texts t c) is left)))
