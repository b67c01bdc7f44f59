-- A step of a program's log, as what a log becomes by an input.
use Rattle.std.proofs.Common.{◌≡◌, ◌≢◌, ◌⊎◌, List, [], ◌∷◌, ◌++◌, length, ℕ, ◌-◌, refl, sym, ◌∙◌, ap, arith, length-append, Ok, Err, Some, ⊎_elim, Result}
use Rattle.std.specs.Prelude.{slice_get}
use Rattle.ar_message.specs.Filling.{filled}
use Rattle.ar_message.specs.declared.sent.Sent.{Sent}
use Rattle.key_roll.specs.Ring.{IsNewest, IsNext, next_key}
use Rattle.lms_tree.specs.Key.{public_of}
use Rattle.lms_tree.specs.KeyParts.{KeyParts}
use Rattle.lms_tree.specs.declared.public_key.LmsPublic.{LmsPublic}
use Rattle.log_core.specs.Keyed.{AreBehind, IsOwn, IsPlain, SendsBy, signed_answer}
use Rattle.log_core.specs.Rolling.{rolling_row}
use Rattle.log_core.specs.Row.{row}
use Rattle.log_core.specs.State.{LogAnswer, CoreState, Input, LogStep, passes, proposes, rolls, takes}
use Rattle.log_journal.specs.Steps.{LogStanding, TakesInput}
use Rattle.log_core.below.log_sending.specs.declared.refusal.LogRefusal.{LogRefusal}
use Rattle.log_core.below.log_sending.specs.declared.refusal.LogRefusal.TheVariants.{Memory}

same-ok : (a b : CoreState × Sent) → ◌≡◌ {A = Result (CoreState × Sent) LogRefusal} (Ok a) (Ok b) → a ≡ b
same-ok a b e = cc

-- an answer that was signed has a reply
pub reply_of : (keys : List KeyParts) (answer : LogAnswer) (new : CoreState) (sent : Sent) → signed_answer keys answer ≡ Ok (new, sent)
    → (reply : LogStep) × (answer ≡ Ok reply) × (new ≡ reply.after)
reply_of keys (Ok reply) new sent e =
    (reply, refl, sym (ap (λ (p : CoreState × Sent). p.0) (same-ok (reply.after, filled keys reply.unsigned) (new, sent) e)))
reply_of keys (Err refusal) new sent e = absurd cc

-- a step that was answered
pub steps_of : (old new : LogStanding) (input : Input) (sent : Sent) → IsOwn old.keys input
    → signed_answer new.keys (row old.core input) ≡ Ok (new.core, sent) → AreBehind input old.keys new.keys → TakesInput old input new
steps_of old new input sent own answer behind =
    let r = reply_of new.keys (row old.core input) new.core sent answer in
    record { own = own; reply = r.0; row_is = r.1; core_is = r.2; keys_are = behind }

-- a refusal of the row is no step
pub no_step : (old : LogStanding) (input : Input) (refusal : LogRefusal) → row old.core input ≡ Err refusal → (later : LogStanding) → ¬ TakesInput old input later
no_step old input refusal answer later step = let never : ◌≡◌ {A = LogAnswer} (Ok step.reply) (Err refusal) = sym step.row_is ∙ answer in absurd cc

pub plain_own : (keys : List KeyParts) (input : Input) → IsPlain input → IsOwn keys input
plain_own keys (takes bytes) plain = tt
plain_own keys proposes plain = tt
plain_own keys passes plain = tt
plain_own keys (rolls key) plain = absurd plain

-- ---- rolls

-- the next key of keys with this one as their newest
pub next_of : (keys : List KeyParts) (public : LmsPublic) → IsNewest keys public → (next : KeyParts) × IsNext keys next
next_of keys public newest = (next_key newest.key, record { newest = newest.key; last = newest.last; is = refl })

last-of : (keys : List KeyParts) (key : KeyParts) → slice_get (keys ++ key ∷ []) (length keys) ≡ Some key
last-of [] key = refl
last-of (k ∷ keys) key = last-of keys key

-- the newest of the keys with the next behind them is that
pub newest_next : (keys later : List KeyParts) (next : KeyParts) (public : LmsPublic) → later ≡ keys ++ next ∷ [] → IsNewest later public → public ≡ public_of next
newest_next keys later next public is newest =
    let place : length later - 1 ≡ length keys = omega (arith, ap length is, length-append keys (next ∷ [])) in
    let here : Some newest.key ≡ Some next =
    sym newest.last ∙ ap (λ (n : ℕ). slice_get later n) place ∙ ap (λ (ks : List KeyParts). slice_get ks (length keys)) is ∙ last-of keys next in
    let same : newest.key ≡ next = cc in
    newest.is ∙ ap public_of same

-- and with the next behind them that is the newest
pub rolled_newest : (keys later : List KeyParts) (next : KeyParts) (public : LmsPublic) → later ≡ keys ++ next ∷ [] → public ≡ public_of next → IsNewest later public
rolled_newest keys later next public later-is is =
    let place : length later - 1 ≡ length keys = omega (arith, ap length later-is, length-append keys (next ∷ [])) in
    record {
      key = next;
      last = ap (λ (n : ℕ). slice_get later n) place ∙ ap (λ (ks : List KeyParts). slice_get ks (length keys)) later-is ∙ last-of keys next;
      is = is;
    }

rolls-row : (s : CoreState) (key : LmsPublic) → row s (rolls key) ≡ rolling_row s key
unfolding row
rolls-row s key = refl

-- a roll that was answered, to this key
pub rolled_steps : (old new : LogStanding) (key newest : LmsPublic) (sent : Sent) → IsNewest old.keys newest → IsNewest new.keys key
    → ((next : KeyParts) → IsNext old.keys next → SendsBy (old.keys ++ next ∷ []) (Ok sent) old.core new.core (rolling_row old.core (public_of next)))
    → ((next : KeyParts) → IsNext old.keys next → new.keys ≡ old.keys ++ next ∷ []) → TakesInput old (rolls key) new
rolled_steps old new key newest sent had has sends behind =
    let next = next_of old.keys newest had in
    let is : key ≡ public_of next.0 = newest_next old.keys new.keys next.0 key (behind next.0 next.1) has in
    let r = reply_of (old.keys ++ next.0 ∷ []) (rolling_row old.core (public_of next.0)) new.core sent (sends next.0 next.1) in
    record {
      own = record { next = next.0; is_next = next.1; is = is };
      reply = r.0;
      row_is = rolls-row old.core key ∙ ap (λ (k : LmsPublic). rolling_row old.core k) is ∙ r.1;
      core_is = r.2;
      keys_are = behind;
    }

-- a roll that was refused
pub roll_refused : (old : LogStanding) (key : LmsPublic) (refusal : LogRefusal)
    → ((next : KeyParts) → IsNext old.keys next → (refusal ≡ Memory) ⊎ (rolling_row old.core (public_of next) ≡ Err refusal)) → refusal ≢ Memory
    → (later : LogStanding) → ¬ TakesInput old (rolls key) later
roll_refused old key refusal refuses other later step =
    let answer : rolling_row old.core (public_of step.own.next) ≡ Err refusal =
    ⊎_elim (λ memory. absurd (other memory)) (λ is. is) (refuses step.own.next step.own.is_next) in
    no_step old (rolls key) refusal (rolls-row old.core key ∙ ap (λ (k : LmsPublic). rolling_row old.core k) step.own.is ∙ answer) later step

-- there is one newest key
pub one_newest : (keys : List KeyParts) (a b : LmsPublic) → IsNewest keys a → IsNewest keys b → a ≡ b
one_newest keys a b one other =
    let same : one.key ≡ other.key = same-key one.key other.key (sym one.last ∙ other.last) in
    one.is ∙ ap public_of same ∙ sym other.is
  where
    same-key : (x y : KeyParts) → Some x ≡ Some y → x ≡ y
    same-key x y e = cc
