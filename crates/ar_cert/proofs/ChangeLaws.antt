-- A change: what was put is read again, and what is read is spelled so; and what follows for whole texts.
use Rattle.std.proofs.Common.{◌≡◌, ℕ, zero, suc, ◌^◌, ◌<◌, ◌≤◌, Bool, true, false, cond, eqb, List, ◌++◌, length, Option, None, Some, Ok, refl, sym, ap, subst, ◌∙◌, append_assoc, arith}
use Rattle.std.proofs.lemmas.Bool.{eqb-true}
use Rattle.std.specs.Prelude.{IfSome, IsNone, ◌↔◌, if◌then◌else◌}
use Rattle.std.specs.List.{flat_map}
use Rattle.std.specs.Int.{w8, w16}
use Rattle.ar_base.specs.Chaining.{◌>>=◌}
use Rattle.ar_bytes.specs.Reading.{Cursor, Reading, counted_at, whole}
use Rattle.ar_base.specs.Bytes.{AreBytes}
use Rattle.ar_base.proofs.Shown.{bind_ok, ok_is}
use Rattle.ar_bytes.specs.RoundTrip.{Passes, ReadsBack, IsSpelledBy, number_text, counted_text}
use Rattle.ar_bytes.proofs.Steps.{Passes-then, split, next}
use Rattle.ar_bytes.proofs.Passing.{counted_again, counted_pass}
use Rattle.ar_bytes.proofs.Parts.{whole_again, whole_pass}
use Rattle.ar_bytes.specs.Tested.{count_at}
use Rattle.ar_bytes.specs.Ascending.{number_from, Ascend}
use Rattle.ar_bytes.specs.Lists.{counted_list_text}
use Rattle.ar_bytes.proofs.TestedFields.{count_again, count_pass}
use Rattle.ar_bytes.proofs.Ascending.{ascending_again, ascending_pass, number_from_again, number_from_pass}
use Rattle.ar_bytes.proofs.Lists.{counted_list_again, counted_list_pass}
use Rattle.ar_cert.specs.Certificate.{IsCertificate, certificate_text, counted_certificate_at}
use Rattle.ar_cert.specs.Changes.{Endorsement, Change, endorsement_from, endorsements_at, counted_endorsements_at, Consent, most_flag, consent_by, consent_at, change_at, endorsement_text, consent_text, change_text, IsSignature, IsEndorsement, AreEndorsements, IsChange}
use Rattle.ar_cert.proofs.CertificateLaws.{counted_certificate_again, counted_certificate_pass}

-- ---- endorsements

endorsement_from_again : (least : ℕ) (v : Endorsement) → least ≤ v.authority → IsEndorsement v → ReadsBack (endorsement_from least) v (endorsement_text v)
unfolding endorsement_from
endorsement_from_again least v le h at new p =
    let s = split at new (number_text w16 v.authority) (counted_text v.signature) p in
    rw (number_from_again least v.authority le h.0 at s.0 s.1, counted_again v.signature h.1 s.0 new s.2) refl

endorsement_from_pass : (least : ℕ) → IsSpelledBy (endorsement_from least) endorsement_text (λ v. (least ≤ v.authority) × IsEndorsement v)
unfolding endorsement_from
endorsement_from_pass least at new v bytes e =
    let authority = next (number_from least) (number_text w16) (λ n. (least ≤ n) × (n < 2 ^ 16)) (number_from_pass least) _ at (v, new) bytes e in
    let signature = next counted_at counted_text IsSignature (λ a n x. counted_pass a n x) _ authority.1 (v, new) authority.4 authority.5 in
    let value : Endorsement = record { authority = authority.0; signature = signature.0 } in
    let passes = Passes-then at authority.1 signature.1 (number_text w16 authority.0) (counted_text signature.0) authority.2 signature.2 in
    subst (λ (x : Endorsement × Cursor). Passes at (endorsement_text x.0) x.1 × ((least ≤ x.0.authority) × IsEndorsement x.0)) (ok_is (value, signature.1) (v, new) signature.5) (passes, (authority.3.0, (authority.3.1, signature.3)))

abbrev AreAscending : List Endorsement → Type 0
AreAscending = Ascend (λ v. v.authority) IsEndorsement 0

endorsements_again : (count : ℕ) (vs : List Endorsement) → length vs ≡ count → AreAscending vs → ReadsBack (endorsements_at count 0) vs (flat_map endorsement_text vs)
endorsements_again count vs = ascending_again (λ v. v.authority) endorsement_from endorsement_text IsEndorsement endorsement_from_again count 0 vs

endorsements_pass : (count : ℕ) → IsSpelledBy (endorsements_at count 0) (flat_map endorsement_text) (λ vs. AreAscending vs × (length vs ≡ count))
endorsements_pass count = ascending_pass (λ v. v.authority) endorsement_from endorsement_text IsEndorsement endorsement_from_pass count 0

abbrev counted_endorsements_text : List Endorsement → List ℕ
counted_endorsements_text = counted_list_text endorsement_text

counted_endorsements_again : (vs : List Endorsement) → AreEndorsements vs → ReadsBack counted_endorsements_at vs (counted_endorsements_text vs)
counted_endorsements_again vs are =
    counted_list_again 8 (λ count at. endorsements_at count 0 at) endorsement_text vs are.0 (omega (arith, are.0)) (endorsements_again (length vs) vs refl are.1)

counted_endorsements_pass : IsSpelledBy counted_endorsements_at counted_endorsements_text AreEndorsements
counted_endorsements_pass = counted_list_pass 8 (λ count at. endorsements_at count 0 at) endorsement_text AreAscending endorsements_pass

-- ---- the handover or the objection

abbrev AreConsent : ℕ → Consent → Type 0
AreConsent count o = IfSome o.0 IsSignature × IfSome o.1 IsSignature × IfSome o.1 (λ _. (count ≡ 0) × IsNone o.0)

flag_fits : (count : ℕ) → 1 ≤ most_flag count
flag_fits count = elim (eqb count 0) as (λ none. 1 ≤ cond none 2 1) [ true ↦ omega arith | false ↦ omega arith ]

consent_again : (count : ℕ) (handover objection : Option (List ℕ)) → AreConsent count (handover, objection) → ReadsBack (consent_at count) (handover, objection) (consent_text handover objection)
unfolding consent_at consent_text
consent_again count None None h at new p = rw (count_again (most_flag count) 0 (omega arith) (omega arith) at new p) refl
consent_again count (Some signature) None h at new p =
    let s = split at new (number_text w8 1) (counted_text signature) p in
    rw (count_again (most_flag count) 1 (flag_fits count) (omega arith) at s.0 s.1, counted_again signature h.0 s.0 new s.2) refl
consent_again count None (Some signature) h at new p =
    let s = split at new (number_text w8 2) (counted_text signature) p in
    let most : 2 ≤ most_flag count = rw h.2.0 (omega arith) in
    rw (count_again (most_flag count) 2 most (omega arith) at s.0 s.1, counted_again signature h.1 s.0 new s.2) refl
consent_again count (Some handover) (Some objection) h at new p = let none : true ≡ false = h.2.1 in absurd cc

-- what stands behind the flag
abbrev behind_flag : ℕ × Cursor → Reading Consent
behind_flag x = if eqb x.0 0 then Ok ((None, None), x.1) else (counted_at x.1 >>= λ signature. Ok (consent_by x.0 signature.0, signature.1))

greatest : (none : Bool) → 2 ≤ cond none 2 1 → none ≡ true
greatest true h = refl
greatest false h = absurd (omega (arith, h))

-- a flag of 2 stands behind no endorsements
none_endorse : (count : ℕ) → 2 ≤ most_flag count → count ≡ 0
none_endorse count h = eqb-true count 0 (greatest (eqb count 0) h)

no_more : (count : ℕ) → most_flag count ≤ 2
no_more count = elim (eqb count 0) as (λ none. cond none 2 1 ≤ 2) [ true ↦ omega arith | false ↦ omega arith ]

consent_rest : (count flag : ℕ) (at mid new : Cursor) (o : Consent) → flag ≤ most_flag count → Passes at (number_text w8 flag) mid → AreBytes mid.ahead → behind_flag (flag, mid) ≡ Ok (o, new) → Passes at (consent_text o.0 o.1) new × AreConsent count o
unfolding consent_text
consent_rest count zero at mid new o le p bytes e =
    subst (λ (x : Consent × Cursor). Passes at (consent_text x.0.0 x.0.1) x.1 × AreConsent count x.0) (ok_is {A = Consent × Cursor} ((None, None), mid) (o, new) e) (p, (tt, tt, tt))
consent_rest count (suc zero) at mid new o le p bytes e =
    let b = bind_ok {B = Consent × Cursor} (counted_at mid) (λ signature. Ok ((Some signature.0, None), signature.1)) (o, new) e in
    let q = counted_pass mid b.0.1 b.0.0 bytes b.1 in
    let both = Passes-then at mid b.0.1 (number_text w8 1) (counted_text b.0.0) p q.0 in
    subst (λ (x : Consent × Cursor). Passes at (consent_text x.0.0 x.0.1) x.1 × AreConsent count x.0) (ok_is {A = Consent × Cursor} ((Some b.0.0, None), b.0.1) (o, new) b.2) (both, (q.1, tt, tt))
consent_rest count (suc (suc zero)) at mid new o le p bytes e =
    let b = bind_ok {B = Consent × Cursor} (counted_at mid) (λ signature. Ok ((None, Some signature.0), signature.1)) (o, new) e in
    let q = counted_pass mid b.0.1 b.0.0 bytes b.1 in
    let both = Passes-then at mid b.0.1 (number_text w8 2) (counted_text b.0.0) p q.0 in
    subst (λ (x : Consent × Cursor). Passes at (consent_text x.0.0 x.0.1) x.1 × AreConsent count x.0) (ok_is {A = Consent × Cursor} ((None, Some b.0.0), b.0.1) (o, new) b.2) (both, (tt, q.1, (none_endorse count (omega (arith, le)), refl)))
consent_rest count (suc (suc (suc flag))) at mid new o le p bytes e = absurd (omega (arith, le, no_more count))

consent_pass : (count : ℕ) → IsSpelledBy (consent_at count) (λ o. consent_text o.0 o.1) (AreConsent count)
unfolding consent_at
consent_pass count at new o bytes e =
    let flag = next (count_at (most_flag count)) (number_text w8) (λ n. n ≤ most_flag count) (count_pass (most_flag count)) _ at (o, new) bytes e in
    consent_rest count flag.0 at flag.1 new o flag.3 flag.2 flag.4 flag.5

-- ---- the change

-- the endorsements and the rest, from the left
regroup : (count list rest : List ℕ) → count ++ (list ++ rest) ≡ (count ++ list) ++ rest
regroup count list rest = sym (append_assoc count list rest)

pub change_again : (r : Change) → IsChange r → ReadsBack change_at r (change_text r)
unfolding change_at change_text
change_again r h at new p =
    let cert = split at new (counted_text (certificate_text r.cert)) _ p in
    let behind = subst (λ (t : List ℕ). Passes cert.0 t new) (regroup (number_text w8 (length r.endorsements)) (flat_map endorsement_text r.endorsements) (consent_text r.handover r.objection)) cert.2 in
    let list = split cert.0 new (counted_endorsements_text r.endorsements) (consent_text r.handover r.objection) behind in
    rw (counted_certificate_again r.cert h.cert at cert.0 cert.1, counted_endorsements_again r.endorsements h.endorsements cert.0 list.0 list.1, consent_again (length r.endorsements) r.handover r.objection (h.handover, h.objection, h.alone) list.0 new list.2) refl

pub change_pass : IsSpelledBy change_at change_text IsChange
unfolding change_at change_text
change_pass at new r bytes e =
    let cert = next counted_certificate_at (λ c. counted_text (certificate_text c)) IsCertificate counted_certificate_pass _ at (r, new) bytes e in
    let list = next counted_endorsements_at counted_endorsements_text AreEndorsements counted_endorsements_pass _ cert.1 (r, new) cert.4 cert.5 in
    let consent = next (consent_at (length list.0)) (λ o. consent_text o.0 o.1) (AreConsent (length list.0)) (consent_pass (length list.0)) _ list.1 (r, new) list.4 list.5 in
    let value : Change = record { cert = cert.0; endorsements = list.0; handover = consent.0.0; objection = consent.0.1 } in
    let back = Passes-then cert.1 list.1 consent.1 (counted_endorsements_text list.0) (consent_text consent.0.0 consent.0.1) list.2 consent.2 in
    let behind = subst (λ (t : List ℕ). Passes cert.1 t consent.1) (append_assoc (number_text w8 (length list.0)) (flat_map endorsement_text list.0) (consent_text consent.0.0 consent.0.1)) back in
    let passes = Passes-then at cert.1 consent.1 (counted_text (certificate_text cert.0)) _ cert.2 behind in
    let fits : IsChange value = record { cert = cert.3; endorsements = list.3; handover = consent.3.0; objection = consent.3.1; alone = consent.3.2 } in
    subst (λ (x : Change × Cursor). Passes at (change_text x.0) x.1 × IsChange x.0) {x = (value, consent.1)} (ok_is (value, consent.1) (r, new) consent.5) (passes, fits)

-- ---- whole texts

-- what reads back is read from no other text, whatever follows
pub one_text : {A : Type 0} (field : Cursor → Reading A) (a b : A) (s t x y : List ℕ) → ReadsBack field a s → ReadsBack field b t → s ++ x ≡ t ++ y → (a ≡ b) × (x ≡ y)
one_text {A} field a b s t x y reads_a reads_b e =
    let at : Cursor = record { ahead = s ++ x; place = 0 } in
    let behind_a : Cursor = record { ahead = x; place = length s } in
    let behind_b : Cursor = record { ahead = y; place = length t } in
    let read_a = reads_a at behind_a (record { bytes = refl; place = omega arith }) in
    let read_b = reads_b at behind_b (record { bytes = e; place = omega arith }) in
    let same : ◌≡◌ {A = A × Cursor} (a, behind_a) (b, behind_b) = ok_is {A = A × Cursor} (a, behind_a) (b, behind_b) (sym read_a ∙ read_b) in
    (ap (λ (r : A × Cursor). r.0) same, ap (λ (r : A × Cursor). r.1.ahead) same)

-- a value is read from its text alone
pub only_text : {A : Type 0} (field : Cursor → Reading A) (text : A → List ℕ) (fits : A → Type 0) → ((a : A) → fits a → ReadsBack field a (text a)) → IsSpelledBy field text fits → (bytes : List ℕ) (a : A) → AreBytes bytes → (whole field bytes ≡ Ok a) ↔ (fits a × (text a ≡ bytes))
only_text field text fits again spelled bytes a are =
    ((λ e. let p = whole_pass field text fits spelled bytes a are e in (p.1, sym p.0)), (λ h. ap (whole field) (sym h.1) ∙ whole_again field a (text a) (again a h.0)))
