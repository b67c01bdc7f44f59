-- How long texts are.
use Rattle.std.proofs.Common.{◌≡◌, ℕ, ◌+◌, ◌*◌, ◌≤◌, Bool, true, false, List, ◌∷◌, ◌++◌, length, get_or, drop, Option, Some, None, is_some, ap, ◌∙◌, ◌<◌, refl, arith, length-append}
use Rattle.std.specs.Int.{w8, w16, w64}
use Rattle.ar_bytes.specs.RoundTrip.{number_text, counted_text}
use Rattle.ar_bytes.proofs.Passing.{length-number_text}
use Rattle.lms_tree.specs.declared.public_key.LmsPublic.{LmsPublic}
use Rattle.lms_tree.specs.PublicKey.{key_text}
use Rattle.ar_bytes.specs.Tested.{flag_text}
use Rattle.ar_bytes.specs.Ascending.{numbers_text}
use Rattle.ar_cert.specs.Certificate.{front_text, rules_text, trusted_text, wait_text, terms_text, certificate_text}
use Rattle.cert_policy.specs.Terms.{PolicyTerms}
use Rattle.ar_cert.specs.Changes.{Endorsement, Change, endorsement_text, consent_text, change_text}
use Rattle.std.specs.List.{flat_map}
use Rattle.std.proofs.lemmas.List.{drop_more}
use Rattle.ar_cert.proofs.Numbers.{length-numbers_text}

pub length-front_text : (name : List ℕ) (serial : ℕ) (previous : List ℕ) (subject : LmsPublic) → length previous ≡ 32 → length (key_text subject) ≡ 56 → length (front_text name serial previous subject) ≡ 98 + length name
unfolding front_text
length-front_text name serial previous subject p k =
    let rest = number_text w64 serial ++ (previous ++ key_text subject) in
    omega (arith, length-append (number_text w8 1) (number_text w8 (length name) ++ name ++ rest), length-number_text w8 1, length-append (number_text w8 (length name) ++ name) rest, length-append (number_text w8 (length name)) name, length-number_text w8 (length name), length-append (number_text w64 serial) (previous ++ key_text subject), length-number_text w64 serial, length-append previous (key_text subject), p, k)

pub length-rules_text : (waits : Bool) (threshold : ℕ) (keyed : Bool) (max_age until : ℕ) → length (rules_text waits threshold keyed max_age until) ≡ 15
unfolding rules_text number_text
length-rules_text waits threshold keyed max_age until = refl

length-wait_text : (wait : Option ℕ) → length (wait_text wait) ≤ 2
unfolding wait_text number_text
length-wait_text None = omega arith
length-wait_text (Some n) = omega arith

pub length-terms_text : (p : PolicyTerms) → length (terms_text p) ≤ 18 + 2 * length p.trusted
length-terms_text p =
    let rules = rules_text (is_some p.wait) p.threshold p.keyed p.max_age p.until in
    let count = number_text w8 (length p.trusted) in
    omega (arith, length-append rules (trusted_text p.trusted ++ wait_text p.wait), length-rules_text (is_some p.wait) p.threshold p.keyed p.max_age p.until, length-append (trusted_text p.trusted) (wait_text p.wait), length-wait_text p.wait, length-append count (numbers_text p.trusted), length-number_text w8 (length p.trusted), length-numbers_text p.trusted)

pub length-flag_text : (flag : Bool) → length (flag_text flag) ≡ 1
length-flag_text true = length-number_text w8 1
length-flag_text false = length-number_text w8 0

pub length-endorsement_text : (v : Endorsement) → length (endorsement_text v) ≡ 4 + length v.signature
length-endorsement_text v = omega (arith, length-append (number_text w16 v.authority) (counted_text v.signature), length-number_text w16 v.authority, length-append (number_text w16 (length v.signature)) v.signature, length-number_text w16 (length v.signature))

-- the endorsements that are left, and one fewer
pub length-endorsements_left : (vs : List Endorsement) (i : ℕ) (v : Endorsement) → i < length vs → get_or vs i v ≡ v → length (flat_map endorsement_text (drop i vs)) ≡ 4 + length v.signature + length (flat_map endorsement_text (drop (i + 1) vs))
length-endorsements_left vs i v lt is =
    let split : drop i vs ≡ v ∷ drop (i + 1) vs = drop_more vs i v lt ∙ ap (λ (x : Endorsement). x ∷ drop (i + 1) vs) is in
    omega (arith, ap (λ (l : List Endorsement). length (flat_map endorsement_text l)) split, length-append (endorsement_text v) (flat_map endorsement_text (drop (i + 1) vs)), length-endorsement_text v)

pub length-change_text : (r : Change) → length (change_text r) ≡ 3 + length (certificate_text r.cert) + length (flat_map endorsement_text r.endorsements) + length (consent_text r.handover r.objection)
unfolding change_text
length-change_text r =
    let list = flat_map endorsement_text r.endorsements in
    let consent = consent_text r.handover r.objection in
    let count = number_text w8 (length r.endorsements) in
    let size = number_text w16 (length (certificate_text r.cert)) in
    omega (arith, length-append (size ++ certificate_text r.cert) (count ++ (list ++ consent)), length-append size (certificate_text r.cert), length-number_text w16 (length (certificate_text r.cert)), length-append count (list ++ consent), length-number_text w8 (length r.endorsements), length-append list consent)

pub ruleset change_lengths = (length-change_text)
