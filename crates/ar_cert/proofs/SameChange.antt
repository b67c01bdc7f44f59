-- Two changes have one text exactly where they are the same.
use Rattle.std.proofs.Common.{◌≡◌, Bool, true, false, List, [], ◌∷◌, ◌++◌, ℕ, Option, Some, None, refl, ap, sym, ◌∙◌}
use Rattle.std.specs.Prelude.{◌==◌, ◌&&◌, bytes_eq}
use Rattle.std.proofs.lemmas.Bool.{and_from, and_parts, eq-eqb, eqb-true}
use Rattle.std.proofs.lemmas.Slice.Eq.{bytes_eq-Decides}
use Rattle.ar_cert.specs.Certificate.{Certificate, IsCertificate, certificate_at, certificate_text}
use Rattle.ar_cert.specs.Changes.{Change, Endorsement, IsChange, change_at, change_text}
use Rattle.ar_cert.specs.Same.{are_same_endorsements, has_same_consents, is_same_change, is_same_endorsement, is_same_signature}
use Rattle.ar_cert.proofs.CertificateLaws.{certificate_again}
use Rattle.ar_cert.proofs.ChangeLaws.{change_again, one_text}

-- ---- the same parts are equal

same-endorsement : (one other : Endorsement) → is_same_endorsement one other ≡ true → one ≡ other
same-endorsement one other is =
    let parts = and_parts (one.authority == other.authority) (bytes_eq one.signature other.signature) is in
    let authority : one.authority ≡ other.authority = eqb-true one.authority other.authority parts.0 in
    let signature : one.signature ≡ other.signature = (bytes_eq-Decides one.signature other.signature).0 parts.1 in
    λ i. record { authority = authority i; signature = signature i }

same-endorsements : (xs ys : List Endorsement) → are_same_endorsements xs ys ≡ true → xs ≡ ys
same-endorsements [] [] is = refl
same-endorsements [] (y ∷ ys) is = absurd cc
same-endorsements (x ∷ xs) [] is = absurd cc
same-endorsements (x ∷ xs) (y ∷ ys) is =
    let parts = and_parts (is_same_endorsement x y) (are_same_endorsements xs ys) is in
    ap (λ (v : Endorsement). v ∷ xs) (same-endorsement x y parts.0) ∙ ap (λ (vs : List Endorsement). y ∷ vs) (same-endorsements xs ys parts.1)

same-signature : (s t : Option (List ℕ)) → is_same_signature s t ≡ true → s ≡ t
same-signature None None is = refl
same-signature None (Some y) is = absurd cc
same-signature (Some x) None is = absurd cc
same-signature (Some x) (Some y) is = ap Some ((bytes_eq-Decides x y).0 is)

-- certificates with one text are one
same-certificate : (one other : Certificate) → IsCertificate one → IsCertificate other → bytes_eq (certificate_text one) (certificate_text other) ≡ true → one ≡ other
same-certificate one other is-one is-other same =
    (one_text certificate_at one other (certificate_text one) (certificate_text other) [] [] (certificate_again one is-one) (certificate_again other is-other)
    (ap (λ t. t ++ []) ((bytes_eq-Decides (certificate_text one) (certificate_text other)).0 same))).0

same-parts : (one other : Change) → IsChange one → IsChange other → is_same_change one other ≡ true → one ≡ other
same-parts one other is-one is-other is =
    let texts : Bool = bytes_eq (certificate_text one.cert) (certificate_text other.cert) in
    let signed : Bool = is_same_signature one.handover other.handover && is_same_signature one.objection other.objection in
    let first = and_parts (bytes_eq one.cert.name other.cert.name) (texts && has_same_consents one other) is in
    let second = and_parts texts (has_same_consents one other) first.1 in
    let third = and_parts (are_same_endorsements one.endorsements other.endorsements) signed second.1 in
    let fourth = and_parts (is_same_signature one.handover other.handover) (is_same_signature one.objection other.objection) third.1 in
    let cert : one.cert ≡ other.cert = same-certificate one.cert other.cert is-one.cert is-other.cert second.0 in
    let endorsements : one.endorsements ≡ other.endorsements = same-endorsements one.endorsements other.endorsements third.0 in
    let handover : one.handover ≡ other.handover = same-signature one.handover other.handover fourth.0 in
    let objection : one.objection ≡ other.objection = same-signature one.objection other.objection fourth.1 in
    λ i. record { cert = cert i; endorsements = endorsements i; handover = handover i; objection = objection i }

-- ---- what is equal is the same

bytes-own : (s : List ℕ) → bytes_eq s s ≡ true
bytes-own s = (bytes_eq-Decides s s).1 refl

endorsement-own : (one : Endorsement) → is_same_endorsement one one ≡ true
endorsement-own one =
    and_from (one.authority == one.authority) (bytes_eq one.signature one.signature) (eq-eqb one.authority one.authority refl) (bytes-own one.signature)

endorsements-own : (xs : List Endorsement) → are_same_endorsements xs xs ≡ true
endorsements-own [] = refl
endorsements-own (x ∷ xs) = and_from (is_same_endorsement x x) (are_same_endorsements xs xs) (endorsement-own x) (endorsements-own xs)

signature-own : (s : Option (List ℕ)) → is_same_signature s s ≡ true
signature-own None = refl
signature-own (Some s) = bytes-own s

change-own : (one : Change) → is_same_change one one ≡ true
change-own one =
    let signed : Bool = is_same_signature one.handover one.handover && is_same_signature one.objection one.objection in
    let texts : Bool = bytes_eq (certificate_text one.cert) (certificate_text one.cert) in
    let signatures : signed ≡ true =
    and_from (is_same_signature one.handover one.handover) (is_same_signature one.objection one.objection)
    (signature-own one.handover) (signature-own one.objection) in
    let consents : has_same_consents one one ≡ true =
    and_from (are_same_endorsements one.endorsements one.endorsements) signed (endorsements-own one.endorsements) signatures in
    and_from (bytes_eq one.cert.name one.cert.name) (texts && has_same_consents one one) (bytes-own one.cert.name)
    (and_from texts (has_same_consents one one) (bytes-own (certificate_text one.cert)) consents)

-- ---- texts

-- changes with one text are one
pub same_text : (one other : Change) → IsChange one → IsChange other → bytes_eq (change_text one) (change_text other) ≡ true → one ≡ other
same_text one other is-one is-other same =
    (one_text change_at one other (change_text one) (change_text other) [] [] (change_again one is-one) (change_again other is-other)
    (ap (λ t. t ++ []) ((bytes_eq-Decides (change_text one) (change_text other)).0 same))).0

pub same_change : (one other : Change) → IsChange one → IsChange other → is_same_change one other ≡ bytes_eq (change_text one) (change_text other)
same_change one other is-one is-other = by (is_same_change one other) (bytes_eq (change_text one) (change_text other)) refl refl
  where
    by : (parts texts : Bool) → is_same_change one other ≡ parts → bytes_eq (change_text one) (change_text other) ≡ texts
        → is_same_change one other ≡ bytes_eq (change_text one) (change_text other)
    by true texts are is =
        are ∙ sym ((bytes_eq-Decides (change_text one) (change_text other)).1 (ap change_text (same-parts one other is-one is-other are)))
    by false false are is = are ∙ sym is
    by false true are is =
        let own : is_same_change one other ≡ true = ap (λ (c : Change). is_same_change one c) (sym (same_text one other is-one is-other is)) ∙ change-own one in
        own ∙ sym is
