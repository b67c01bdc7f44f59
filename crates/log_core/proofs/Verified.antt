-- Signatures that were verified stay valid, and need not be verified again.
use Rattle.std.proofs.Common.{◌≡◌, ℕ, List, [], ◌∷◌, ◌++◌, length, refl, sym, ap, ◌∙◌, subst, append_assoc, Bool, true, false, not, cond, nat_lt}
use Rattle.std.specs.Prelude.{All, Ok, Err, Result, filter, flat_map, is_some, map, slice_get, bytes_eq}
use Rattle.std.specs.Result.{result_and}
use Rattle.std.specs.List.{AllByRecursion}
use Rattle.std.proofs.lemmas.List.{append-nil}
use Rattle.std.proofs.lemmas.Slice.Eq.{bytes_eq-Decides}
use Rattle.std.proofs.lemmas.List.Elements.{All-contains, recursion_from_All}
use Rattle.ar_base.specs.Gives.{with_error}
use Rattle.ar_base.proofs.Giving.{no-error, order-first, order-then}
use Rattle.lms_tree.specs.declared.public_key.LmsPublic.{LmsPublic}
use Rattle.ar_cert.specs.Certificate.{digest_of}
use Rattle.ar_cert.specs.Changes.{Change, Endorsement, IsChange, change_at, change_text}
use Rattle.ar_cert.proofs.ChangeLaws.{change_again, one_text}
use Rattle.ar_statement.specs.declared.party.Party.{Party}
use Rattle.ar_statement.specs.Claims.{authority_party, endorse, log_party}
use Rattle.party_keys.specs.Directory.{Directory, keys_of}
use Rattle.party_keys.specs.Learning.{Announced, after_adopting, after_learning, with_next}
use Rattle.party_keys.specs.Signatures.{IsVerified, answer_under, verified}
use Rattle.party_keys.specs.Signers.{Claimed, all_known, all_signed, is_known, signed_as, signed_by, signer_fault}
use Rattle.party_keys.specs.declared.fault.SignerFault.{SignerFault}
use Rattle.party_keys.specs.declared.fault.SignerFault.TheVariants as signer_faults
use Rattle.party_keys.proofs.Growing.{lasts}
use Rattle.ar_council.proofs.Lists.{found}
use Rattle.log_core.specs.Kept.{IsKeptCore, WasQueued}
use Rattle.ar_claims.specs.Lists.{endorsements_in}
use Rattle.log_sending.specs.Signers.{of_signers, signers}
use Rattle.log_core.specs.State.{CoreState}
use Rattle.log_sending.specs.Queued.{is_queued}

-- ---- each signature is valid

-- the signature of a claim is valid under the keys
abbrev pub IsValidUnder : Directory → Claimed → Type 0
IsValidUnder keys c = IsVerified keys c.party c.text c.signature

pub verified-has : (keys : List LmsPublic) (party : Party) (text signature : List ℕ) → answer_under keys party text signature ≡ Ok tt → is_some (slice_get keys 0) ≡ true
verified-has [] party text signature is = absurd cc
verified-has (first ∷ later) party text signature is = refl

-- who signed is known
signer-known : (keys : Directory) (c : Claimed) → IsValidUnder keys c → is_known keys c.party ≡ true
unfolding verified
signer-known keys c is = verified-has (keys_of keys c.party) c.party c.text c.signature is

each-signed : (keys : Directory) (claims : List Claimed) → all_signed keys claims ≡ Ok tt → AllByRecursion (IsValidUnder keys) claims
each-signed keys [] is = tt
each-signed keys (c ∷ claims) is =
    let here : signed_as keys c ≡ Ok tt = order-first (signed_as keys c) (all_signed keys claims) tt is in
    let rest : all_signed keys claims ≡ Ok tt = order-then (signed_as keys c) (all_signed keys claims) tt is in
    (no-error (signer_fault c.party) (verified keys c.party c.text c.signature) tt here, each-signed keys claims rest)

pub each-valid : (keys : Directory) (claims : List Claimed) → signers keys claims ≡ Ok tt → AllByRecursion (IsValidUnder keys) claims
each-valid keys claims is =
    let known = all_known keys (map (λ c. c.party) claims) in
    each-signed keys claims (order-then known (all_signed keys claims) tt (no-error of_signers (result_and known (all_signed keys claims)) tt is))

-- ---- claims that are valid may be left out

known-with : (keys : Directory) (c : Claimed) (rest : Result (Unit {0}) SignerFault) → IsValidUnder keys c
    → cond (is_known keys c.party) rest (Err (signer_faults.Unknown c.party)) ≡ rest
known-with keys c rest is = ap (λ b. cond b rest (Err (signer_faults.Unknown c.party))) (signer-known keys c is)

known-without : (keys : Directory) (front middle back : List Claimed) → AllByRecursion (IsValidUnder keys) middle
    → all_known keys (map (λ c. c.party) (front ++ (middle ++ back))) ≡ all_known keys (map (λ c. c.party) (front ++ back))
known-without keys [] [] back all = refl
known-without keys [] (c ∷ middle) back all =
    known-with keys c (all_known keys (map (λ (c : Claimed). c.party) (middle ++ back))) all.0 ∙ known-without keys [] middle back all.1
known-without keys (c ∷ front) middle back all =
    ap (λ rest. cond (is_known keys c.party) rest (Err (signer_faults.Unknown c.party))) (known-without keys front middle back all)

signed-with : (keys : Directory) (c : Claimed) (rest : Result (Unit {0}) SignerFault) → IsValidUnder keys c → result_and (signed_as keys c) rest ≡ rest
signed-with keys c rest is = ap (λ v. result_and (with_error (signer_fault c.party) v) rest) is

signed-without : (keys : Directory) (front middle back : List Claimed) → AllByRecursion (IsValidUnder keys) middle
    → all_signed keys (front ++ (middle ++ back)) ≡ all_signed keys (front ++ back)
signed-without keys [] [] back all = refl
signed-without keys [] (c ∷ middle) back all = signed-with keys c (all_signed keys (middle ++ back)) all.0 ∙ signed-without keys [] middle back all.1
signed-without keys (c ∷ front) middle back all = ap (λ rest. result_and (signed_as keys c) rest) (signed-without keys front middle back all)

without : (keys : Directory) (front middle back : List Claimed) → AllByRecursion (IsValidUnder keys) middle
    → signers keys (front ++ (middle ++ back)) ≡ signers keys (front ++ back)
without keys front middle back all =
    let known = known-without keys front middle back all in
    let signed = signed-without keys front middle back all in
    λ i. with_error of_signers (result_and (known i) (signed i))

all-valid : (keys : Directory) (claims : List Claimed) → AllByRecursion (IsValidUnder keys) claims → signers keys claims ≡ Ok tt
all-valid keys claims all = ap (λ l. signers keys l) (sym (append-nil claims)) ∙ without keys [] claims [] all

-- ---- what was verified stays so

learnt-each : (keys : Directory) (a : Announced) (claims : List Claimed) → AllByRecursion (IsValidUnder keys) claims → AllByRecursion (IsValidUnder (after_learning keys a)) claims
learnt-each keys a [] all = tt
learnt-each keys a (c ∷ claims) all = (lasts keys (a ∷ []) c.party c.text c.signature (Ok tt) tt all.0, learnt-each keys a claims all.1)

-- a change that was queued is one that was, where more keys are known
pub queued-learnt : (keys : Directory) (a : Announced) (change : Change) → WasQueued keys change → WasQueued (after_learning keys a) change
queued-learnt keys a change was = record {
  is_change = was.is_change;
  verified = all-valid (after_learning keys a) (endorsements_in change) (learnt-each keys a (endorsements_in change) (each-valid keys (endorsements_in change) was.verified));
}

-- a log's own next key is none of an authority's
same-authority : (keys : Directory) (me generation : ℕ) (key : LmsPublic) (authority : ℕ)
    → keys_of (after_adopting keys (log_party me) generation key) (authority_party authority) ≡ keys_of keys (authority_party authority)
same-authority keys me generation key authority = by (nat_lt generation (length (keys_of keys (log_party me))))
  where
    by : (b : Bool) → keys_of (cond b (with_next keys (log_party me) generation key) keys) (authority_party authority) ≡ keys_of keys (authority_party authority)
    by true = refl
    by false = refl

adopted-each : (keys : Directory) (me generation : ℕ) (key : LmsPublic) (cert : List ℕ) (es : List Endorsement)
    → AllByRecursion (IsValidUnder keys) (map (λ (e : Endorsement). signed_by (authority_party e.authority) (endorse e.authority cert) e.signature) es)
    → AllByRecursion (IsValidUnder (after_adopting keys (log_party me) generation key)) (map (λ (e : Endorsement). signed_by (authority_party e.authority) (endorse e.authority cert) e.signature) es)
unfolding verified
adopted-each keys me generation key cert [] all = tt
adopted-each keys me generation key cert (e ∷ es) all =
    let c : Claimed = signed_by (authority_party e.authority) (endorse e.authority cert) e.signature in (
      ap (λ k. answer_under k c.party c.text c.signature) (same-authority keys me generation key e.authority) ∙ all.0,
      adopted-each keys me generation key cert es all.1,
    )

pub queued-adopted : (keys : Directory) (me generation : ℕ) (key : LmsPublic) (change : Change) → WasQueued keys change
    → WasQueued (after_adopting keys (log_party me) generation key) change
queued-adopted keys me generation key change was = record {
  is_change = was.is_change;
  verified = all-valid (after_adopting keys (log_party me) generation key) (endorsements_in change)
      (adopted-each keys me generation key (digest_of change.cert) change.endorsements (each-valid keys (endorsements_in change) was.verified));
}

-- ---- queued changes

-- a change that is queued has valid endorsements
queued-valid : (s : CoreState) (change : Change) → IsKeptCore s → IsChange change → is_queued s.queue change ≡ true → AllByRecursion (IsValidUnder s.keys) (endorsements_in change)
queued-valid s change kept is there =
    let one = found (λ (other : Change). bytes_eq (change_text other) (change_text change)) s.queue there in
    let was : WasQueued s.keys one.0 = All-contains (WasQueued s.keys) s.queue one.0 kept.queued one.1.0 in
    let texts : change_text one.0 ≡ change_text change = (bytes_eq-Decides (change_text one.0) (change_text change)).0 one.1.1 in
    let same = one_text change_at one.0 change (change_text one.0) (change_text change) [] [] (change_again one.0 was.is_change) (change_again change is) (ap (λ l. l ++ []) texts) in
    each-valid s.keys (endorsements_in change) (subst (λ (c : Change). signers s.keys (endorsements_in c) ≡ Ok tt) same.0 was.verified)

once-each : (s : CoreState) (changes : List Change) (front : List Claimed) → IsKeptCore s → AllByRecursion IsChange changes
    → signers s.keys (front ++ flat_map endorsements_in changes) ≡ signers s.keys (front ++ flat_map endorsements_in (filter (λ change. not (is_queued s.queue change)) changes))
once-each s [] front kept are = refl
once-each s (change ∷ changes) front kept are =
    by (is_queued s.queue change) refl (λ (more : List Claimed). once-each s changes more kept are.1)
  where
    news : List Change
    news = filter (λ (c : Change). not (is_queued s.queue c)) changes

    rest : List Claimed
    rest = flat_map endorsements_in changes

    by : (b : Bool) → is_queued s.queue change ≡ b → ((more : List Claimed) → signers s.keys (more ++ rest) ≡ signers s.keys (more ++ flat_map endorsements_in news))
        → signers s.keys (front ++ (endorsements_in change ++ rest)) ≡ signers s.keys (front ++ flat_map endorsements_in (filter (λ (c : Change). not (is_queued s.queue c)) (change ∷ changes)))
    by true there later =
        let left : filter (λ (c : Change). not (is_queued s.queue c)) (change ∷ changes) ≡ news = ap (λ b. cond (not b) (change ∷ news) news) there in
        without s.keys front (endorsements_in change) rest (queued-valid s change kept are.0 there) ∙ later front
        ∙ ap (λ l. signers s.keys (front ++ flat_map endorsements_in l)) (sym left)
    by false absent later =
        let left : filter (λ (c : Change). not (is_queued s.queue c)) (change ∷ changes) ≡ change ∷ news = ap (λ b. cond (not b) (change ∷ news) news) absent in
        ap (λ l. signers s.keys l) (sym (append_assoc front (endorsements_in change) rest)) ∙ later (front ++ endorsements_in change)
        ∙ ap (λ l. signers s.keys l) (append_assoc front (endorsements_in change) (flat_map endorsements_in news))
        ∙ ap (λ l. signers s.keys (front ++ flat_map endorsements_in l)) (sym left)

-- the endorsements of queued changes may be left out
pub once : (s : CoreState) (front : List Claimed) (changes : List Change) → IsKeptCore s → All IsChange changes
    → signers s.keys (front ++ flat_map endorsements_in changes) ≡ signers s.keys (front ++ flat_map endorsements_in (filter (λ change. not (is_queued s.queue change)) changes))
once s front changes kept are = once-each s changes front kept (recursion_from_All IsChange changes are)
