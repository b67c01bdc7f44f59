-- An authority goes on to its next key.
use Rattle.std.proofs.Common.{◌≡◌, ◌≢◌, ◌⊎◌, ◌∙◌, ap, arith, inl, inr, length-append, refl, sym, ⊎_elim, ℕ, ◌-◌, List, [], ◌∷◌, ◌++◌, length, Some, Ok, Err}
use Rattle.std.specs.Prelude.{slice_get}
use Rattle.ar_message.specs.declared.sent.Sent.{Sent}
use Rattle.authority_core.specs.Keyed.{SendsBy}
use Rattle.authority_core.specs.RollRows.{roll_row}
use Rattle.authority_core.specs.declared.refusal.AuthorityRefusal.{AuthorityRefusal}
use Rattle.authority_core.specs.declared.refusal.AuthorityRefusal.TheVariants.{Memory}
use Rattle.key_roll.specs.Ring.{IsNewest, IsNext, IsOfNext, next_key}
use Rattle.lms_tree.specs.Key.{public_of}
use Rattle.lms_tree.specs.KeyParts.{KeyParts}
use Rattle.lms_tree.specs.declared.public_key.LmsPublic.{LmsPublic}
use Rattle.authority_keeper.proofs.Answered.{not_sent}
use Rattle.authority_keeper.specs.Inputs.{rolls}
use Rattle.authority_keeper.specs.Keeping.{AuthorityStanding, RefusesRoll, Steps, Turns}
use Rattle.authority_keeper.specs.declared.refusal.AuthorityOrderRefusal.TheVariants as refusals

-- ---- keys

-- the next key of keys with this one as their newest
pub next_of : (keys : List KeyParts) (public : LmsPublic) → IsNewest keys public → (next : KeyParts) × IsNext keys next
next_of keys public newest = (next_key newest.key, record { newest = newest.key; last = newest.last; is = refl })

last-of : (keys : List KeyParts) (key : KeyParts) → slice_get (keys ++ key ∷ []) (length keys) ≡ Some key
last-of [] key = refl
last-of (k ∷ keys) key = last-of keys key

last-place : (keys later : List KeyParts) (next : KeyParts) → later ≡ keys ++ next ∷ [] → slice_get later (length later - 1) ≡ Some next
last-place keys later next is =
    let place : length later - 1 ≡ length keys = omega (arith, ap length is, length-append keys (next ∷ [])) in
    ap (λ (n : ℕ). slice_get later n) place ∙ ap (λ (ks : List KeyParts). slice_get ks (length keys)) is ∙ last-of keys next

-- the newest of the keys with the next behind them is that
newest-next : (keys later : List KeyParts) (next : KeyParts) (public : LmsPublic) → later ≡ keys ++ next ∷ [] → IsNewest later public → public ≡ public_of next
newest-next keys later next public is newest =
    let here : Some newest.key ≡ Some next = sym newest.last ∙ last-place keys later next is in
    let same : newest.key ≡ next = cc in
    newest.is ∙ ap public_of same

-- ---- rolls

-- a roll that was answered, to this key
pub rolled : (old new : AuthorityStanding) (key newest : LmsPublic) (sent : Sent) → IsNewest old.keys newest → IsNewest new.keys key
    → ((next : KeyParts) → IsNext old.keys next → SendsBy (old.keys ++ next ∷ []) (Ok sent) old.state new.state (roll_row old.state (public_of next)))
    → ((next : KeyParts) → IsNext old.keys next → new.keys ≡ old.keys ++ next ∷ []) → new.book ≡ old.book → Steps old (rolls key) sent new
rolled old new key newest sent had has sends behind book =
    let next = next_of old.keys newest had in (
      next.0,
      (
        newest-next old.keys new.keys next.0 key (behind next.0 next.1) has,
        record {
          next = next.1;
          answer = sends next.0 next.1;
          keys = behind next.0 next.1;
          book = book;
        },
      ),
    )

-- a roll that was refused
pub roll_not_taken : (old : AuthorityStanding) (key : LmsPublic) (refusal : AuthorityRefusal)
    → ((next : KeyParts) → IsNext old.keys next → (refusal ≡ Memory) ⊎ (roll_row old.state (public_of next) ≡ Err refusal)) → refusal ≢ Memory
    → (sent : Sent) (later : AuthorityStanding) → ¬ Steps old (rolls key) sent later
roll_not_taken old key refusal refuses other sent later step =
    let turns : Turns old step.0 sent later = step.1.1 in
    let answer : roll_row old.state (public_of step.0) ≡ Err refusal = ⊎_elim (λ memory. absurd (other memory)) (λ is. is) (refuses step.0 turns.next) in
    not_sent (old.keys ++ step.0 ∷ []) (roll_row old.state (public_of step.0)) refusal sent later.state answer turns.answer

-- a roll to a key that is not the newest then
pub other_key : (old new : AuthorityStanding) (key : LmsPublic) → ((next : KeyParts) → IsNext old.keys next → new.keys ≡ old.keys ++ next ∷ []) → ¬ IsNewest new.keys key
    → (sent : Sent) (later : AuthorityStanding) → ¬ Steps old (rolls key) sent later
other_key old new key behind other sent later step =
    other (record { key = step.0; last = last-place old.keys new.keys step.0 (behind step.0 step.1.1.next); is = step.1.0 })

-- a refusal, as an order's
pub roll_refused : (old : AuthorityStanding) (key : LmsPublic) (of : IsOfNext old.keys key) (refusal : AuthorityRefusal)
    → ((next : KeyParts) → IsNext old.keys next → (refusal ≡ Memory) ⊎ (roll_row old.state (public_of next) ≡ Err refusal)) → RefusesRoll old (refusals.Authority refusal)
roll_refused old key of refusal refuses = ⊎_elim (λ memory. inl memory) (λ is. inr (of.next, (of.is_next, is))) (refuses of.next of.is_next)
