-- What a log that is kept does by an input.
use Rattle.std.proofs.Common.{◌≡◌, ◌≢◌, ◌⊎◌, ◌∙◌, ℕ, List, [], ◌∷◌, ◌++◌, Option, None, Some, Result, Ok, Err, ap, inl, inr, refl, subst, sym, ⊎_elim}
use Rattle.std.specs.Prelude.{IfErr, IfOk, IfSome}
use Rattle.std.proofs.lemmas.Option.{same_Some}
use Rattle.ar_message.specs.Filling.{filled}
use Rattle.ar_message.specs.declared.sent.Sent.{Sent}
use Rattle.kept_journal.specs.declared.fault.ReplayFault.{ReplayFault}
use Rattle.kept_party.specs.declared.done.Done.{Done}
use Rattle.key_roll.specs.Ring.{IsNewest, IsNext, IsOfNext}
use Rattle.lms_tree.specs.Key.{public_of}
use Rattle.lms_tree.specs.KeyParts.{KeyParts}
use Rattle.lms_tree.specs.declared.public_key.LmsPublic.{LmsPublic}
use Rattle.log_core.proofs.Standing.{row-stays}
use Rattle.log_core.specs.Keyed.{AreBehind, IsOwn, SendsBy, signed_answer}
use Rattle.log_core.specs.Rolling.{rolling_row}
use Rattle.log_core.specs.Row.{row}
use Rattle.log_core.specs.State.{CoreState, Input, rolls}
use Rattle.log_journal.proofs.Replayed.{newest_next, next_of, no_step, reply_of, roll_refused, rolled_newest, steps_of}
use Rattle.log_journal.proofs.Spelled.{says_it}
use Rattle.log_journal.specs.Inputs.{IsWhole, input_in, input_text}
use Rattle.log_journal.specs.Steps.{LogStanding, TakesInput}
use Rattle.log_journal.specs.Steps as steps
use Rattle.log_keeper.specs.Keeping as keeping
use Rattle.log_keeper.specs.Keeping.{Steps}
use Rattle.log_core.below.log_sending.specs.declared.refusal.LogRefusal.{LogRefusal}
use Rattle.log_core.below.log_sending.specs.declared.refusal.LogRefusal.TheVariants.{Memory}

-- an answer to an input takes its text
pub answered : (old new : LogStanding) (input : Input) (sent : Sent) → IsWhole input → IsOwn old.keys input
    → signed_answer new.keys (row old.core input) ≡ Ok (new.core, sent) → AreBehind input old.keys new.keys → keeping.takes old (input_text input) sent new
answered old new input sent whole own answer behind = record {
  input = input;
  says = says_it input whole;
  steps = record { own = own; answer = answer; keys_are = behind };
}

-- and leaves the log its number
pub same_number : (keys : List KeyParts) (s new : CoreState) (input : Input) (sent : Sent) → signed_answer keys (row s input) ≡ Ok (new, sent) → new.log.me ≡ s.log.me
same_number keys s new input sent answer =
    let r = reply_of keys (row s input) new sent answer in ap (λ (c : CoreState). c.log.me) r.2 ∙ (row-stays s input r.0 r.1).0

-- a log is asked so, as it is in its journal's words
abbrev pub taken : (old new : LogStanding) (input : Input) (sent : Sent) → Steps old input sent new → TakesInput old input new
taken old new input sent step = steps_of old new input sent step.own step.answer step.keys_are

-- and it is taken by what is sent then
pub sent_for : (old new : LogStanding) (text : List ℕ) → steps.takes old text new → (sent : Sent) × keeping.takes old text sent new
sent_for old new text t =
    let sent : Sent = filled new.keys t.steps.reply.unsigned in (
      sent,
      record {
        input = t.input;
        says = t.says;
        steps = record {
          own = t.steps.own;
          answer = ap (signed_answer new.keys) t.steps.row_is ∙ ap (λ (c : CoreState). Ok (c, sent)) (sym t.steps.core_is);
          keys_are = t.steps.keys_are;
        };
      },
    )

-- what it takes a log takes
pub log_takes : (old new : LogStanding) (text : List ℕ) (sent : Sent) → keeping.takes old text sent new → steps.takes old text new
log_takes old new text sent t = record { input = t.input; says = t.says; steps = taken old new t.input sent t.steps }

-- what the row refuses is not taken
pub not_taken : (old : LogStanding) (input : Input) (refusal : LogRefusal) → row old.core input ≡ Err refusal → (sent : Sent) (later : LogStanding) → ¬ Steps old input sent later
not_taken old input refusal answer sent later step = no_step old input refusal answer later (taken old later input sent step)

-- ---- rolls

rolls-row : (s : CoreState) (key : LmsPublic) → row s (rolls key) ≡ rolling_row s key
unfolding row
rolls-row s key = refl

-- a roll that was answered, to this key
pub rolled : (old new : LogStanding) (key newest : LmsPublic) (sent : Sent) → IsNewest old.keys newest → IsNewest new.keys key
    → ((next : KeyParts) → IsNext old.keys next → SendsBy (old.keys ++ next ∷ []) (Ok sent) old.core new.core (rolling_row old.core (public_of next)))
    → ((next : KeyParts) → IsNext old.keys next → new.keys ≡ old.keys ++ next ∷ []) → Steps old (rolls key) sent new
rolled old new key newest sent had has sends behind =
    let next = next_of old.keys newest had in
    let is : key ≡ public_of next.0 = newest_next old.keys new.keys next.0 key (behind next.0 next.1) has in
    let by_next : signed_answer (old.keys ++ next.0 ∷ []) (rolling_row old.core (public_of next.0)) ≡ Ok (new.core, sent) = sends next.0 next.1 in
    let row_is : row old.core (rolls key) ≡ rolling_row old.core (public_of next.0) = rolls-row old.core key ∙ ap (λ (k : LmsPublic). rolling_row old.core k) is in
    record {
      own = record { next = next.0; is_next = next.1; is = is };
      answer = ap (signed_answer new.keys) row_is
          ∙ ap (λ (ks : List KeyParts). signed_answer ks (rolling_row old.core (public_of next.0))) (behind next.0 next.1) ∙ by_next;
      keys_are = behind;
    }

-- a roll that was refused
pub roll_not_taken : (old : LogStanding) (key : LmsPublic) (refusal : LogRefusal)
    → ((next : KeyParts) → IsNext old.keys next → (refusal ≡ Memory) ⊎ (rolling_row old.core (public_of next) ≡ Err refusal)) → refusal ≢ Memory
    → (sent : Sent) (later : LogStanding) → ¬ Steps old (rolls key) sent later
roll_not_taken old key refusal refuses other sent later step = roll_refused old key refusal refuses other later (taken old later (rolls key) sent step)

-- a roll to a key that is not the newest then
pub other_key : (old new : LogStanding) (key : LmsPublic) → ((next : KeyParts) → IsNext old.keys next → new.keys ≡ old.keys ++ next ∷ []) → ¬ IsNewest new.keys key
    → (sent : Sent) (later : LogStanding) → ¬ Steps old (rolls key) sent later
other_key old new key behind other sent later step =
    other (rolled_newest old.keys new.keys step.own.next key (behind step.own.next step.own.is_next) step.own.is)

-- a roll leaves the log its number
pub roll_same : (old : LogStanding) (newest : LmsPublic) (new : CoreState) (result : Result Sent LogRefusal) (behind : KeyParts → List KeyParts) → IsNewest old.keys newest
    → ((next : KeyParts) → IsNext old.keys next → SendsBy (behind next) result old.core new (rolling_row old.core (public_of next))) → new.log.me ≡ old.core.log.me
roll_same old newest new (Ok sent) behind had sends =
    let next = next_of old.keys newest had in
    same_number (behind next.0) old.core new (rolls (public_of next.0)) sent
    (ap (signed_answer (behind next.0)) (rolls-row old.core (public_of next.0)) ∙ sends next.0 next.1)
roll_same old newest new (Err refusal) behind had sends =
    let next = next_of old.keys newest had in ap (λ (c : CoreState). c.log.me) (sends next.0 next.1).0

-- ---- orders

-- what is known of the text is known of the one that there is
of-text : {A : Type 0} (P : A → Type 0) (text : Option A) (is : A) → text ≡ Some is → P is → IfSome text P
of-text P text is e p = subst (λ o. IfSome o P) (sym e) p

-- what was done has a text, which is taken
pub done_so : (old new : LogStanding) (input : Input) (words : List ℕ → Type 0) → words (input_text input) → (result : Result (Done Sent) LogRefusal)
    → IfOk result (λ done. keeping.DoneBy old input done new) → IfOk result (λ done. IfSome done.text (λ text. keeping.takes old text done.reply new × words text))
done_so old new input words spelled (Ok done) by = of-text (λ text. keeping.takes old text done.reply new × words text) done.text (input_text input) by.0 (by.1, spelled)
done_so old new input words spelled (Err refusal) by = tt

-- so nothing is told without one
pub not_told : (old new : LogStanding) (input : Input) (X : Done Sent → Type 0) (result : Result (Done Sent) LogRefusal)
    → IfOk result (λ done. keeping.DoneBy old input done new) → IfOk result (λ done. done.text ≡ None → X done)
not_told old new input X (Ok done) by = λ none. let never : ◌≡◌ {A = Option (List ℕ)} (Some (input_text input)) None = sym by.0 ∙ none in absurd cc
not_told old new input X (Err refusal) by = tt

-- a roll to a next key
abbrev pub RollsTo : LogStanding → Done Sent → LogStanding → Type 0
RollsTo old done new = (key : LmsPublic) × (IsOfNext old.keys key × keeping.DoneBy old (rolls key) done new)

pub rolled_so : (old new : LogStanding) (key : LmsPublic) (result : Result (Done Sent) LogRefusal) → IsOfNext old.keys key
    → IfOk result (λ done. keeping.DoneBy old (rolls key) done new) → IfOk result (λ done. RollsTo old done new)
rolled_so old new key (Ok done) next by = (key, (next, by))
rolled_so old new key (Err refusal) next by = tt

pub no_roll : (old : LogStanding) (key : LmsPublic) (result : Result (Done Sent) LogRefusal) → IsOfNext old.keys key
    → IfErr result (λ refusal. keeping.RefusesBy old (rolls key) refusal) → IfErr result (λ refusal. keeping.RefusesRoll old refusal)
no_roll old key (Ok done) next by = tt
no_roll old key (Err refusal) next by = ⊎_elim (λ memory. inl memory) (λ is. inr (key, (next, is))) by

pub roll_done : (old new : LogStanding) (result : Result (Done Sent) LogRefusal) → IfOk result (λ done. RollsTo old done new)
    → IfOk result (λ done. IfSome done.text (λ text. keeping.takes old text done.reply new
    × ((key : LmsPublic) × (IsOfNext old.keys key × (text ≡ input_text (rolls key))))))
roll_done old new (Ok done) by =
    of-text (λ text. keeping.takes old text done.reply new × ((key : LmsPublic) × (IsOfNext old.keys key × (text ≡ input_text (rolls key))))) done.text (input_text (rolls by.0)) by.1.1.0
    (by.1.1.1, (by.0, (by.1.0, refl)))
roll_done old new (Err refusal) by = tt

pub roll_not_told : (old new : LogStanding) (X : Done Sent → Type 0) (result : Result (Done Sent) LogRefusal) → IfOk result (λ done. RollsTo old done new)
    → IfOk result (λ done. done.text ≡ None → X done)
roll_not_told old new X (Ok done) by = λ none. let never : ◌≡◌ {A = Option (List ℕ)} (Some (input_text (rolls by.0))) None = sym by.1.1.0 ∙ none in absurd cc
roll_not_told old new X (Err refusal) by = tt

-- ---- texts that are taken again

pub recalled : (old new : LogStanding) (text : List ℕ) (input : Input) (result : Result Sent ReplayFault) → input_in text ≡ Some input
    → IfOk result (λ sent. Steps old input sent new) → IfOk result (λ sent. keeping.takes old text sent new)
recalled old new text input (Ok sent) says by = record { input = input; says = says; steps = by }
recalled old new text input (Err fault) says by = tt

pub stuck_so : (old : LogStanding) (text : List ℕ) (input : Input) → input_in text ≡ Some input → ((sent : Sent) (later : LogStanding) → ¬ Steps old input sent later)
    → (sent : Sent) (later : LogStanding) → ¬ keeping.takes old text sent later
stuck_so old text input says never sent later t =
    never sent later (subst (λ (i : Input). Steps old i sent later) (same_Some t.input input (sym t.says ∙ says)) t.steps)

pub nothing_said : (old : LogStanding) (text : List ℕ) → input_in text ≡ None → (sent : Sent) (later : LogStanding) → ¬ keeping.takes old text sent later
nothing_said old text none sent later t = let never : ◌≡◌ {A = Option Input} (Some t.input) None = sym t.says ∙ none in absurd cc
