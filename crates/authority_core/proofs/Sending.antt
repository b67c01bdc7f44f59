-- What the authority sends where its confirmation was entered, and that it stands as before where it was refused.
use Rattle.std.specs.Prelude.{map}
use Rattle.std.specs.Result.{result_and}
use Rattle.std.proofs.Common.{◌≡◌, inl, inr, ℕ, List, Result, Ok, Err, refl, sym, ap, ◌∙◌, subst}
use Rattle.ar_statement.specs.declared.text.SeenText.{SeenText}
use Rattle.ar_statement.specs.Claims.{authority_party, client_party}
use Rattle.ar_message.specs.Messages.{message_text}
use Rattle.ar_message.specs.declared.address.Address.TheVariants.{One}
use Rattle.ar_message.specs.declared.message.Confirming.{Confirming}
use Rattle.ar_message.specs.declared.message.Message.TheVariants.{HalfConfirmed}
use Rattle.ar_message.specs.declared.unsigned.Unsigned.{Unsigned}
use Rattle.ar_message.specs.Filling.{zeros}
use Rattle.key_roll.specs.Due.{DueParts}
use Rattle.authority_core.specs.Calls.{confirming, kept_claim}
use Rattle.authority_core.specs.ConfirmRows.{confirmation_with, half_claims, half_confirmed_row, log_claims, log_confirmed_row}
use Rattle.authority_core.specs.Confirming.{confirming_checks, confirming_with, kept_of, parties_of}
use Rattle.party_keys.specs.Signers.{seen_in}
use Rattle.authority_core.specs.Record.{AuthorityRecord}
use Rattle.authority_core.specs.State.{AuthorityAnswer, AuthorityState, EntersBy, Prepared, StepsBy, entering, if_due, prepared, sent_with}
use Rattle.authority_core.specs.declared.entries.Kept.{Kept}
use Rattle.authority_core.specs.declared.refusal.AuthorityRefusal.{AuthorityRefusal}

-- ---- by the answer of the record

pub entered_steps : (s : AuthorityState) (seen : List SeenText) (k : Kept) (p : Prepared) (made : Result DueParts AuthorityRefusal) (later : AuthorityRecord)
    → EntersBy made s.past later (entering s.past (kept_claim (authority_party s.me) k)) (confirming s.me s.past seen k)
    → StepsBy (if_due made (sent_with p)) s (record s { past = later }) (confirming_with s seen k p)
unfolding confirming_with
entered_steps s seen k p (Ok due) later e =
    subst (λ (r : Result DueParts AuthorityRefusal). if_due {A = AuthorityState × Unsigned} r (λ d. (record s { past = confirming s.me s.past seen k }, sent_with p d)) ≡ Ok (record s { past = later }, sent_with p due)) (sym e.0)
    (ap (λ (q : AuthorityRecord). Ok (record s { past = q }, sent_with p due)) (sym e.1))
entered_steps s seen k p (Err refusal) later e = (
  ap (λ (q : AuthorityRecord). record s { past = q }) e.0,
  elim e.1 [
    | inl wants ↦ inl wants
    | inr is ↦ inr (subst (λ (r : Result DueParts AuthorityRefusal). if_due {A = AuthorityState × Unsigned} r (λ d. (record s { past = confirming s.me s.past seen k }, sent_with p d)) ≡ Err refusal) (sym is) refl)
  ],
)

-- ---- behind the checks

-- where the checks pass, the row is what follows them, and what is seen is what they tell
passed : (checks : Result (Unit {0}) AuthorityRefusal) (claims seen : List SeenText) (answer : AuthorityAnswer) → result_and checks (Ok claims) ≡ Ok seen → (answer ≡ result_and checks answer) × (seen ≡ claims)
passed (Ok u) claims seen answer e = (refl, cc)
passed (Err refusal) claims seen answer e = absurd cc

same_parts : (s : AuthorityState) (seen seen' : List SeenText) (k k' : Kept) (p p' : Prepared) → seen ≡ seen' → k ≡ k' → p ≡ p' → confirming_with s seen k p ≡ confirming_with s seen' k' p'
same_parts s seen seen' k k' p p' a b d =
    ap (λ (l : List SeenText). confirming_with s l k p) a ∙ (ap (λ (x : Kept). confirming_with s seen' x p) b ∙ ap (λ (x : Prepared). confirming_with s seen' k' x) d)

log_row_is : (s : AuthorityState) (part : Confirming) (seen : List SeenText) (k : Kept) (p : Prepared) → k ≡ kept_of part
    → result_and (confirming_checks s part.first (parties_of part part.second) (log_claims part) part) (Ok (map seen_in (log_claims part))) ≡ Ok seen
    → p ≡ prepared s.signature_len (One (authority_party part.second)) (message_text (HalfConfirmed part (zeros s.signature_len)))
    → confirming_with s seen k p ≡ log_confirmed_row s part
unfolding log_confirmed_row confirming_with
log_row_is s part seen k p kept-is checked p-is =
    let ready : Prepared = prepared s.signature_len (One (authority_party part.second)) (message_text (HalfConfirmed part (zeros s.signature_len))) in
    let both = passed (confirming_checks s part.first (parties_of part part.second) (log_claims part) part) (map seen_in (log_claims part)) seen (confirming_with s (map seen_in (log_claims part)) (kept_of part) ready) checked in
    same_parts s seen (map seen_in (log_claims part)) k (kept_of part) p ready both.1 kept-is p-is ∙ both.0

half_row_is : (s : AuthorityState) (part : Confirming) (first_signature : List ℕ) (seen : List SeenText) (k : Kept) (p : Prepared) → k ≡ kept_of part
    → result_and (confirming_checks s part.second (parties_of part part.first) (half_claims part first_signature) part) (Ok (map seen_in (half_claims part first_signature))) ≡ Ok seen
    → p ≡ prepared s.signature_len (One (client_party part.client)) (message_text (confirmation_with part first_signature (zeros s.signature_len)))
    → confirming_with s seen k p ≡ half_confirmed_row s part first_signature
unfolding half_confirmed_row confirming_with
half_row_is s part first_signature seen k p kept-is checked p-is =
    let ready : Prepared = prepared s.signature_len (One (client_party part.client)) (message_text (confirmation_with part first_signature (zeros s.signature_len))) in
    let both = passed (confirming_checks s part.second (parties_of part part.first) (half_claims part first_signature) part) (map seen_in (half_claims part first_signature)) seen (confirming_with s (map seen_in (half_claims part first_signature)) (kept_of part) ready) checked in
    same_parts s seen (map seen_in (half_claims part first_signature)) k (kept_of part) p ready both.1 kept-is p-is ∙ both.0

-- ---- the whole of a confirmation, by what the record made of it

-- what is sent is by that
sends_so : (s : AuthorityState) (made : Result DueParts AuthorityRefusal) (later : AuthorityRecord) (seen : List SeenText) (k : Kept) (p : Prepared) (result : Result Unsigned AuthorityRefusal) (answer : AuthorityAnswer)
    → EntersBy made s.past later (entering s.past (kept_claim (authority_party s.me) k)) (confirming s.me s.past seen k)
    → result ≡ if_due made (sent_with p) → confirming_with s seen k p ≡ answer → StepsBy result s (record s { past = later }) answer
sends_so s made later seen k p result answer e is row =
    subst (λ (r : Result Unsigned AuthorityRefusal). StepsBy r s (record s { past = later }) answer) (sym is)
    (subst (λ (a : AuthorityAnswer). StepsBy (if_due made (sent_with p)) s (record s { past = later }) a) row (entered_steps s seen k p made later e))

pub log_steps : (s now : AuthorityState) (part : Confirming) (seen : List SeenText) (k : Kept) (p : Prepared) (made : Result DueParts AuthorityRefusal) (later : AuthorityRecord) (result : Result Unsigned AuthorityRefusal)
    → s ≡ now → k ≡ kept_of part
    → result_and (confirming_checks now part.first (parties_of part part.second) (log_claims part) part) (Ok (map seen_in (log_claims part))) ≡ Ok seen
    → p ≡ prepared now.signature_len (One (authority_party part.second)) (message_text (HalfConfirmed part (zeros now.signature_len)))
    → EntersBy made s.past later (entering s.past (kept_claim (authority_party s.me) k)) (confirming s.me s.past seen k)
    → result ≡ if_due made (sent_with p) → StepsBy result now (record s { past = later }) (log_confirmed_row now part)
log_steps s now part seen k p made later result same kept-is checked p-is e is =
    subst (λ (n : AuthorityState).
    result_and (confirming_checks n part.first (parties_of part part.second) (log_claims part) part) (Ok (map seen_in (log_claims part))) ≡ Ok seen
    → p ≡ prepared n.signature_len (One (authority_party part.second)) (message_text (HalfConfirmed part (zeros n.signature_len)))
    → StepsBy result n (record s { past = later }) (log_confirmed_row n part)) same
    (λ checked p-is. sends_so s made later seen k p result (log_confirmed_row s part) e is (log_row_is s part seen k p kept-is checked p-is)) checked p-is

pub half_steps : (s now : AuthorityState) (part : Confirming) (first_signature : List ℕ) (seen : List SeenText) (k : Kept) (p : Prepared) (made : Result DueParts AuthorityRefusal) (later : AuthorityRecord)
    (result : Result Unsigned AuthorityRefusal) → s ≡ now → k ≡ kept_of part
    → result_and (confirming_checks now part.second (parties_of part part.first) (half_claims part first_signature) part) (Ok (map seen_in (half_claims part first_signature))) ≡ Ok seen
    → p ≡ prepared now.signature_len (One (client_party part.client)) (message_text (confirmation_with part first_signature (zeros now.signature_len)))
    → EntersBy made s.past later (entering s.past (kept_claim (authority_party s.me) k)) (confirming s.me s.past seen k)
    → result ≡ if_due made (sent_with p) → StepsBy result now (record s { past = later }) (half_confirmed_row now part first_signature)
half_steps s now part first_signature seen k p made later result same kept-is checked p-is e is =
    subst (λ (n : AuthorityState).
    result_and (confirming_checks n part.second (parties_of part part.first) (half_claims part first_signature) part) (Ok (map seen_in (half_claims part first_signature))) ≡ Ok seen
    → p ≡ prepared n.signature_len (One (client_party part.client)) (message_text (confirmation_with part first_signature (zeros n.signature_len)))
    → StepsBy result n (record s { past = later }) (half_confirmed_row n part first_signature)) same
    (λ checked p-is. sends_so s made later seen k p result (half_confirmed_row s part first_signature) e is (half_row_is s part first_signature seen k p kept-is checked p-is)) checked p-is
