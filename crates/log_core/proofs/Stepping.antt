-- Steps that are their rows'.
use Rattle.std.proofs.Common.{◌≡◌, ◌-◌, ◌==◌, Bool, true, false, not, cond, None, [], ◌∷◌, refl, sym, ap, ◌∙◌, subst, ◌⊎◌, inl, inr}
use Rattle.std.specs.Prelude.{Result, Ok, Err, OnOk, OnErr}
use Rattle.ar_base.specs.Chaining.{need}
use Rattle.ar_base.specs.Gives.{GivesUnless}
use Rattle.ar_council.proofs.Readable.{readable}
use Rattle.ar_message.specs.declared.address.Address.TheVariants.{Logs}
use Rattle.ar_message.specs.declared.message.Message.TheVariants.{RollNote}
use Rattle.ar_message.specs.declared.unsigned.Unsigned.{Unsigned}
use Rattle.ar_message.specs.Filling.{nothing, zeros}
use Rattle.ar_statement.specs.Ranges.{IsKeyText}
use Rattle.key_roll.specs.Due.{DueParts}
use Rattle.key_roll.specs.Entry.{announced, roll_text}
use Rattle.key_roll.specs.declared.fault.RollFault.{RollFault}
use Rattle.key_roll.specs.declared.fault.RollFault.TheVariants as roll_fault
use Rattle.lms_tree.specs.PublicKey.{HasWidths}
use Rattle.lms_tree.specs.declared.public_key.LmsPublic.{LmsPublic}
use Rattle.ar_statement.specs.Claims.{log_party}
use Rattle.lms_tree.specs.PublicKey.{key_text}
use Rattle.party_keys.specs.Learning.{Announced, learned}
use Rattle.party_keys.specs.declared.fault.LearnFault.{LearnFault}
use Rattle.party_keys.specs.declared.fault.LearnFault.TheVariants as learn_fault
use Rattle.party_keys.specs.declared.learning.Learned.{Learned}
use Rattle.epoch_log.specs.Calls.{after_roll, learning, rolling}
use Rattle.epoch_log.specs.Log.{LogParts}
use Rattle.log_core.specs.Steps.{IsStep, given, learn_refusal, noted, roll_refusal}
use Rattle.log_core.specs.Rolling.{roll_draft, rolling_reply, rolling_row}
use Rattle.log_sending.specs.Sending.{none_composed, sealed, with_draft}
use Rattle.log_core.specs.Kept.{IsKeptCore}
use Rattle.log_core.specs.Learning.{is_learned, roll_note_reply, roll_note_row}
use Rattle.log_core.specs.State.{LogAnswer, CoreState}
use Rattle.log_sending.specs.declared.refusal.LogRefusal.{LogRefusal}
use Rattle.log_sending.specs.declared.refusal.LogRefusal.TheVariants as refusals
use Rattle.log_core.proofs.KeptEndings.{kept-roll_note, kept-rolling_row}
use Rattle.log_core.proofs.Replies.{made}
use Rattle.log_sending.proofs.Sealing.{sealed-one}

note-row : (s : CoreState) (a : Announced) (answer : Result Learned LearnFault) → learned s.keys a ≡ answer
    → roll_note_row s a ≡ given (is_learned answer a.party a.generation ∷ []) (roll_note_reply s a)
unfolding roll_note_row
note-row s a answer is = ap (λ r. given (is_learned r a.party a.generation ∷ []) (roll_note_reply s a)) is

pub note-learnt : (s : CoreState) (a : Announced) (how : Learned) → learned s.keys a ≡ Ok how → roll_note_row s a ≡ Ok (roll_note_reply s a)
note-learnt s a how is = note-row s a (Ok how) is

pub note-kept : (s : CoreState) (a : Announced) (how : Learned) → IsKeptCore s → learned s.keys a ≡ Ok how → IsKeptCore (roll_note_reply s a).after
note-kept s a how kept is = kept-roll_note s a (roll_note_reply s a) kept (note-learnt s a how is)

pub note-refused : (s : CoreState) (a : Announced) (fault : LearnFault) → (fault ≡ learn_fault.Memory) ⊎ (learned s.keys a ≡ Err fault)
    → (learn_refusal fault a.party a.generation ≡ refusals.Memory) ⊎ (roll_note_row s a ≡ Err (learn_refusal fault a.party a.generation))
note-refused s a fault (inl wants) = inl (ap (λ f. learn_refusal f a.party a.generation) wants)
note-refused s a fault (inr is) = inr (note-row s a (Err fault) is)

-- ---- the step

-- the core around what the log is now
abbrev pub core-with : CoreState → LogParts → CoreState
core-with s log = record { log = log.state; keys = log.keys; queue = s.queue; signature_len = s.signature_len }

abbrev pub log-in : CoreState → LogParts
log-in s = record { state = s.log; keys = s.keys }

abbrev quiet : CoreState → LogAnswer
quiet s = Ok (record { unsigned = nothing; after = s })

pub note-keeps : (s : CoreState) (a : Announced) (r : Result Learned LearnFault) (new : LogParts) → IsKeptCore s
    → GivesUnless learn_fault.Memory (λ (how : Learned). how) r (learned s.keys a) → OnOk r (new ≡ learning (log-in s) a) → OnErr r (new ≡ log-in s) → IsKeptCore (core-with s new)
note-keeps s a (Ok how) new kept gives ok err = subst (λ (n : LogParts). IsKeptCore (core-with s n)) (sym ok) (note-kept s a how kept gives)
note-keeps s a (Err fault) new kept gives ok err = subst (λ (n : LogParts). IsKeptCore (core-with s n)) (sym err) kept

note-step-by : (s : CoreState) (a : Announced) (r : Result Learned LearnFault) (new : LogParts)
    → GivesUnless learn_fault.Memory (λ (how : Learned). how) r (learned s.keys a) → OnOk r (new ≡ learning (log-in s) a) → OnErr r (new ≡ log-in s)
    → IsStep (noted r a.party a.generation) s (core-with s new) (roll_note_row s a)
note-step-by s a (Ok how) new gives ok err = note-learnt s a how gives ∙ ap (λ (n : LogParts). quiet (core-with s n)) (sym ok)
note-step-by s a (Err fault) new gives ok err = (ap (λ (n : LogParts). core-with s n) err, note-refused s a fault gives)

pub note-step : (s : CoreState) (a : Announced) (r : Result Learned LearnFault) (new : LogParts) (out : Result Unsigned LogRefusal) → out ≡ noted r a.party a.generation
    → GivesUnless learn_fault.Memory (λ (how : Learned). how) r (learned s.keys a) → OnOk r (new ≡ learning (log-in s) a) → OnErr r (new ≡ log-in s)
    → IsStep out s (core-with s new) (roll_note_row s a)
note-step s a r new out is gives ok err =
    subst (λ (o : Result Unsigned LogRefusal). IsStep o s (core-with s new) (roll_note_row s a)) (sym is) (note-step-by s a r new gives ok err)

-- ---- the order to roll

rolled-row : (s : CoreState) (key : LmsPublic) (last : Bool) → (s.log.past.signed.newest == 999) ≡ last
    → rolling_row s key ≡ given (need (not last) refusals.LastGeneration ∷ []) (rolling_reply s key)
unfolding rolling_row
rolled-row s key last is = ap (λ b. given (need (not b) refusals.LastGeneration ∷ []) (rolling_reply s key)) is

abbrev roll-due : CoreState → LmsPublic → Result DueParts RollFault
roll-due s key = announced s.log.past.signed (log_party s.log.me) key

-- the entry of a Roll
abbrev roll-entry : CoreState → LmsPublic → DueParts
roll-entry s key = record {
  generation = s.log.past.signed.newest;
  leaf = s.log.past.signed.leaves - 1;
  text = roll_text (log_party s.log.me) s.log.past.signed.newest key;
  leaves = s.log.past.signed.leaves;
}

roll-made : (s : CoreState) (key : LmsPublic) (due : DueParts) → roll-due s key ≡ Ok due → rolling_row s key ≡ Ok (rolling_reply s key)
roll-made s key due is = by (s.log.past.signed.newest == 999) refl is
  where
    by : (b : Bool) → (s.log.past.signed.newest == 999) ≡ b → cond b (Err roll_fault.Last) (Ok (roll-entry s key)) ≡ Ok due → rolling_row s key ≡ Ok (rolling_reply s key)
    by true last given = absurd cc
    by false last given = rolled-row s key false last

pub roll-refused : (s : CoreState) (key : LmsPublic) (fault : RollFault) → (fault ≡ roll_fault.Memory) ⊎ (roll-due s key ≡ Err fault)
    → (roll_refusal fault ≡ refusals.Memory) ⊎ (rolling_row s key ≡ Err (roll_refusal fault))
roll-refused s key fault (inl wants) = inl (ap roll_refusal wants)
roll-refused s key roll_fault.Memory (inr is) = inl refl
roll-refused s key roll_fault.Last (inr is) = inr (by (s.log.past.signed.newest == 999) refl is)
  where
    by : (b : Bool) → (s.log.past.signed.newest == 999) ≡ b → cond b (Err roll_fault.Last) (Ok (roll-entry s key)) ≡ Err roll_fault.Last
        → rolling_row s key ≡ Err refusals.LastGeneration
    by true last given = rolled-row s key true last
    by false last given = absurd cc

pub roll-keeps : (s : CoreState) (key : LmsPublic) (r : Result DueParts RollFault) (new : LogParts) → IsKeptCore s → IsKeyText (key_text key) → HasWidths key
    → GivesUnless roll_fault.Memory (λ (due : DueParts). due) r (roll-due s key) → OnOk r (new ≡ rolling (log-in s) key) → OnErr r (new ≡ log-in s) → IsKeptCore (core-with s new)
roll-keeps s key (Ok due) new kept is-key widths gives ok err =
    subst (λ (n : LogParts). IsKeptCore (core-with s n)) (sym ok) (kept-rolling_row s key (rolling_reply s key) kept is-key (readable key widths) (roll-made s key due gives))
roll-keeps s key (Err fault) new kept is-key widths gives ok err = subst (λ (n : LogParts). IsKeptCore (core-with s n)) (sym err) kept

pub roll-sends : (s : CoreState) (key : LmsPublic) (due : DueParts) (new : LogParts) (unsigned : Unsigned) → roll-due s key ≡ Ok due → new ≡ rolling (log-in s) key
    → unsigned ≡ sealed new.state.past.signed (with_draft none_composed (roll_draft s key)) None
    → rolling_row s key ≡ Ok (record { unsigned = unsigned; after = core-with s new })
roll-sends s key due new unsigned is news sends =
    roll-made s key due is ∙ sym (ap (λ (u : Unsigned). made u (core-with s new)) (sends ∙ ap (λ (n : LogParts). sealed n.state.past.signed (with_draft none_composed (roll_draft s key)) None) news ∙ one)
    ∙ ap (λ (n : LogParts). made (rolling_reply s key).unsigned (core-with s n)) news)
  where
    one : sealed (after_roll s.log (key_text key)).past.signed (with_draft none_composed (roll_draft s key)) None ≡ (rolling_reply s key).unsigned
    one = sealed-one (after_roll s.log (key_text key)).past.signed Logs (RollNote (log_party s.log.me) s.log.past.signed.newest key (zeros s.signature_len)) _ None

pub roll-step : (s : CoreState) (key : LmsPublic) (fault : RollFault) (new : LogParts) → (fault ≡ roll_fault.Memory) ⊎ (roll-due s key ≡ Err fault) → new ≡ log-in s
    → IsStep (Err (roll_refusal fault)) s (core-with s new) (rolling_row s key)
roll-step s key fault new gives err = (ap (λ (n : LogParts). core-with s n) err, roll-refused s key fault gives)
