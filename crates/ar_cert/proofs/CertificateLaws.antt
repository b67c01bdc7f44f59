-- A certificate: what was put is read again, and what is read is spelled so.
use Rattle.std.proofs.Common.{◌≡◌, ℕ, zero, suc, ◌^◌, ◌<◌, ◌≤◌, Bool, true, false, ◌&&◌, leb, eqb, List, [], ◌++◌, length, Option, Some, None, is_some, Ok, refl, sym, ap, subst, ◌∙◌, arith, length-append}
use Rattle.std.proofs.lemmas.List.{append-nil}
use Rattle.ar_base.specs.Chaining.{◌>>=◌}
use Rattle.std.proofs.lemmas.Bool.{and_parts, le-leb, leb-true, and_from}
use Rattle.std.specs.Prelude.{IfSome}
use Rattle.std.specs.Int.{w8, w16, w32, w64}
use Rattle.ar_bytes.specs.Reading.{Cursor, Reading, number_at, such_that, within}
use Rattle.ar_base.specs.Bytes.{AreBytes, IsDigest}
use Rattle.ar_base.proofs.Shown.{ok_is}
use Rattle.ar_bytes.specs.RoundTrip.{Passes, ReadsBack, IsSpelledBy, number_text, counted_text}
use Rattle.ar_bytes.proofs.Steps.{Passes-then, split, next}
use Rattle.ar_bytes.proofs.Passing.{number_again, number_pass, wide8, wide16, wide32, wide64}
use Rattle.ar_bytes.proofs.Parts.{such_that_again, such_that_pass, within_again, within_pass}
use Rattle.ar_names.specs.Names.{IsName}
use Rattle.ar_names.proofs.Least.{short}
use Rattle.ar_statement.specs.Claims.{name_text}
use Rattle.ar_statement.specs.Fields.{digest_at, name_at}
use Rattle.ar_statement.proofs.FieldLaws.{digest_again, digest_pass, name_again, name_pass}
use Rattle.lms_tree.specs.PublicKey.{HasWidths, key_text}
use Rattle.lms_tree.proofs.KeyLemmas.{length-key_text}
use Rattle.cert_policy.specs.Terms.{PolicyTerms}
use Rattle.ar_bytes.specs.Tested.{byte_at, flag_at, flag_text}
use Rattle.ar_bytes.specs.Ascending.{numbers_at, AreNumbers}
use Rattle.ar_bytes.proofs.TestedFields.{byte_again, byte_pass, flag_again, flag_pass}
use Rattle.ar_bytes.proofs.Ascending.{same-cursor, numbers_again, numbers_pass}
use Rattle.ar_bytes.proofs.Lists.{counted_list_again, counted_list_pass}
use Rattle.ar_cert.specs.Certificate.{Certificate, certified_key_at, trusted_at, trusted_text, version_at, version_text, is_wait, wait_at, wait_text, IsWait, terms_at, terms_text, certificate_at, certificate_text, counted_certificate_at, front_text, rules_text, AreTerms, IsCertificate}
use Rattle.ar_cert.proofs.FieldLaws.{key_again, key_pass}
use Rattle.ar_cert.proofs.Lengths.{length-front_text, length-terms_text, length-flag_text}

-- ---- the trusted authorities

abbrev AreTrusted : List ℕ → Type 0
AreTrusted ns = (length ns ≤ 16) × AreNumbers ns

trusted_again : (ns : List ℕ) → AreTrusted ns → ReadsBack trusted_at ns (trusted_text ns)
trusted_again ns h =
    counted_list_again 16 (λ count at. numbers_at count 0 at) (number_text w16) ns h.0 (omega (arith, h.0)) (numbers_again (length ns) 0 ns refl h.1)

trusted_pass : IsSpelledBy trusted_at trusted_text AreTrusted
trusted_pass = counted_list_pass 16 (λ count at. numbers_at count 0 at) (number_text w16) AreNumbers (λ count. numbers_pass count 0)

-- ---- the version and the wait

version_again : (waits : Bool) → ReadsBack version_at waits (version_text waits)
unfolding version_at
version_again true at new p = rw (such_that_again (λ n. leb 1 n && leb n 2) (number_at w8) 2 (number_text w8 2) (number_again w8 (2 ^ 8) wide8 2 (omega arith)) refl at new p) refl
version_again false at new p = rw (such_that_again (λ n. leb 1 n && leb n 2) (number_at w8) 1 (number_text w8 1) (number_again w8 (2 ^ 8) wide8 1 (omega arith)) refl at new p) refl

version_number : (n : ℕ) → (leb 1 n && leb n 2) ≡ true → number_text w8 n ≡ version_text (eqb n 2)
version_number zero e = absurd cc
version_number (suc zero) e = refl
version_number (suc (suc zero)) e = refl
version_number (suc (suc (suc n))) e = absurd (omega (arith, leb-true (suc (suc (suc n))) 2 (and_parts (leb 1 (suc (suc (suc n)))) (leb (suc (suc (suc n))) 2) e).1))

version_pass : IsSpelledBy version_at version_text (λ _. Unit {0})
unfolding version_at
version_pass at new waits bytes e =
    let n = next (such_that (λ n. leb 1 n && leb n 2) (number_at w8)) (number_text w8) (λ n. (n < 2 ^ 8) × ((leb 1 n && leb n 2) ≡ true)) (such_that_pass (λ n. leb 1 n && leb n 2) (number_at w8) (number_text w8) (λ n. n < 2 ^ 8) (number_pass w8 (2 ^ 8) wide8)) (λ n. Ok (eqb n.0 2, n.1)) at (waits, new) bytes e in
    let p = subst (λ (t : List ℕ). Passes at t n.1) (version_number n.0 n.3.1) n.2 in
    subst (λ (x : Bool × Cursor). Passes at (version_text x.0) x.1 × Unit {0}) (ok_is (eqb n.0 2, n.1) (waits, new) n.5) (p, tt)

wait_again : (wait : Option ℕ) → IfSome wait IsWait → ReadsBack (wait_at (is_some wait)) wait (wait_text wait)
unfolding wait_at wait_text
wait_again None h at new p = ap (λ (c : Cursor). Ok (None, c)) (same-cursor at new p.bytes (omega (arith, p.place)))
wait_again (Some n) h at new p = rw (such_that_again is_wait (number_at w16) n (number_text w16 n) (number_again w16 (2 ^ 16) wide16 n (omega (arith, h))) (and_from (leb 1 n) (leb n 10000) (le-leb 1 n h.0) (le-leb n 10000 h.1)) at new p) refl

wait_pass : (waits : Bool) → IsSpelledBy (wait_at waits) wait_text (λ wait. IfSome wait IsWait × (is_some wait ≡ waits))
unfolding wait_at wait_text
wait_pass false at new wait bytes e =
    subst (λ (x : Option ℕ × Cursor). Passes at (wait_text x.0) x.1 × (IfSome x.0 IsWait × (is_some x.0 ≡ false))) (ok_is (None, at) (wait, new) e) (record { bytes = refl; place = omega arith }, (tt, refl))
wait_pass true at new wait bytes e =
    let n = next (such_that is_wait (number_at w16)) (number_text w16) (λ n. (n < 2 ^ 16) × (is_wait n ≡ true)) (such_that_pass is_wait (number_at w16) (number_text w16) (λ n. n < 2 ^ 16) (number_pass w16 (2 ^ 16) wide16)) (λ n. Ok (Some n.0, n.1)) at (wait, new) bytes e in
    let fits : IsWait n.0 = (leb-true 1 n.0 (and_parts (leb 1 n.0) (leb n.0 10000) n.3.1).0, leb-true n.0 10000 (and_parts (leb 1 n.0) (leb n.0 10000) n.3.1).1) in
    subst (λ (x : Option ℕ × Cursor). Passes at (wait_text x.0) x.1 × (IfSome x.0 IsWait × (is_some x.0 ≡ true))) (ok_is (Some n.0, n.1) (wait, new) n.5) (n.2, (fits, refl))

-- ---- the terms

terms_again : (t : PolicyTerms) → AreTerms t → ReadsBack terms_at t (terms_text t)
unfolding terms_at rules_text
terms_again t h at new p =
    let all = split at new (rules_text (is_some t.wait) t.threshold t.keyed t.max_age t.until) (trusted_text t.trusted ++ wait_text t.wait) p in
    let version = split at all.0 (version_text (is_some t.wait)) _ all.1 in
    let threshold = split version.0 all.0 (number_text w8 t.threshold) _ version.2 in
    let keyed = split threshold.0 all.0 (flag_text t.keyed) _ threshold.2 in
    let max_age = split keyed.0 all.0 (number_text w32 t.max_age) (number_text w64 t.until) keyed.2 in
    let trusted = split all.0 new (trusted_text t.trusted) (wait_text t.wait) all.2 in
    rw (version_again (is_some t.wait) at version.0 version.1, number_again w8 (2 ^ 8) wide8 t.threshold h.threshold version.0 threshold.0 threshold.1, flag_again t.keyed threshold.0 keyed.0 keyed.1, number_again w32 (2 ^ 32) wide32 t.max_age h.max_age keyed.0 max_age.0 max_age.1, number_again w64 (2 ^ 64) wide64 t.until h.until max_age.0 all.0 max_age.2, trusted_again t.trusted (h.few, h.ascending) all.0 trusted.0 trusted.1, wait_again t.wait h.wait trusted.0 new trusted.2) refl

-- what is read behind the rules
abbrev behind_rules_at : Bool → ℕ → Bool → ℕ → ℕ → Cursor → Reading PolicyTerms
behind_rules_at waits threshold keyed max_age until at = do
  trusted ← trusted_at at
  wait ← wait_at waits trusted.1
  Ok (record { threshold = threshold; keyed = keyed; max_age = max_age; until = until; trusted = trusted.0; wait = wait.0 }, wait.1)

behind_rules_pass : (waits keyed : Bool) (threshold max_age until : ℕ) (at mid new : Cursor) (t : PolicyTerms) → AreBytes mid.ahead
    → Passes at (rules_text waits threshold keyed max_age until) mid → threshold < 2 ^ 8 → max_age < 2 ^ 32 → until < 2 ^ 64
    → behind_rules_at waits threshold keyed max_age until mid ≡ Ok (t, new) → Passes at (terms_text t) new × AreTerms t
behind_rules_pass waits keyed threshold max_age until at mid new t bytes rules threshold_fits max_age_fits until_fits e =
    let trusted = next trusted_at trusted_text AreTrusted trusted_pass _ mid (t, new) bytes e in
    let wait = next (wait_at waits) wait_text (λ wait. IfSome wait IsWait × (is_some wait ≡ waits)) (wait_pass waits) _ trusted.1 (t, new) trusted.4 trusted.5 in
    let value : PolicyTerms = record { threshold = threshold; keyed = keyed; max_age = max_age; until = until; trusted = trusted.0; wait = wait.0 } in
    let version : Passes at (rules_text (is_some wait.0) threshold keyed max_age until) mid = subst (λ (b : Bool). Passes at (rules_text b threshold keyed max_age until) mid) (sym wait.3.1) rules in
    let lists = Passes-then mid trusted.1 wait.1 (trusted_text trusted.0) (wait_text wait.0) trusted.2 wait.2 in
    let passes = Passes-then at mid wait.1 (rules_text (is_some wait.0) threshold keyed max_age until) (trusted_text trusted.0 ++ wait_text wait.0) version lists in
    let fits : AreTerms value = record { threshold = threshold_fits; max_age = max_age_fits; until = until_fits; few = trusted.3.0; ascending = trusted.3.1; wait = wait.3.0 } in
    subst (λ (x : PolicyTerms × Cursor). Passes at (terms_text x.0) x.1 × AreTerms x.0) {x = (value, wait.1)} (ok_is (value, wait.1) (t, new) wait.5) (passes, fits)

terms_pass : IsSpelledBy terms_at terms_text AreTerms
unfolding terms_at rules_text
terms_pass at new t bytes e =
    let waits = next version_at version_text (λ _. Unit {0}) version_pass _ at (t, new) bytes e in
    let threshold = next (number_at w8) (number_text w8) (λ n. n < 2 ^ 8) (number_pass w8 (2 ^ 8) wide8) _ waits.1 (t, new) waits.4 waits.5 in
    let keyed = next flag_at flag_text (λ _. Unit {0}) flag_pass _ threshold.1 (t, new) threshold.4 threshold.5 in
    let max_age = next (number_at w32) (number_text w32) (λ n. n < 2 ^ 32) (number_pass w32 (2 ^ 32) wide32) _ keyed.1 (t, new) keyed.4 keyed.5 in
    let until = next (number_at w64) (number_text w64) (λ n. n < 2 ^ 64) (number_pass w64 (2 ^ 64) wide64) _ max_age.1 (t, new) max_age.4 max_age.5 in
    let times = Passes-then keyed.1 max_age.1 until.1 (number_text w32 max_age.0) (number_text w64 until.0) max_age.2 until.2 in
    let rules = Passes-then at waits.1 until.1 (version_text waits.0) _ waits.2 (Passes-then waits.1 threshold.1 until.1 (number_text w8 threshold.0) _ threshold.2 (Passes-then threshold.1 keyed.1 until.1 (flag_text keyed.0) _ keyed.2 times)) in
    behind_rules_pass waits.0 keyed.0 threshold.0 max_age.0 until.0 at until.1 new t until.4 rules threshold.3 max_age.3 until.3 until.5

-- ---- the certificate

pub certificate_again : (c : Certificate) → IsCertificate c → ReadsBack certificate_at c (certificate_text c)
unfolding certificate_at certificate_text front_text
certificate_again c h at new p =
    let all = split at new (front_text c.name c.serial c.previous c.subject) (terms_text c.policy ++ flag_text c.revoked) p in
    let tag = split at all.0 (number_text w8 1) _ all.1 in
    let name = split tag.0 all.0 (name_text c.name) _ tag.2 in
    let serial = split name.0 all.0 (number_text w64 c.serial) _ name.2 in
    let previous = split serial.0 all.0 c.previous (key_text c.subject) serial.2 in
    let policy = split all.0 new (terms_text c.policy) (flag_text c.revoked) all.2 in
    rw (byte_again 1 (omega arith) at tag.0 tag.1, name_again c.name h.name tag.0 name.0 name.1, number_again w64 (2 ^ 64) wide64 c.serial h.serial name.0 serial.0 serial.1, digest_again c.previous h.previous serial.0 previous.0 previous.1, key_again c.subject h.subject previous.0 all.0 previous.2, terms_again c.policy h.policy all.0 policy.0 policy.1, flag_again c.revoked policy.0 new policy.2) refl

pub certificate_pass : IsSpelledBy certificate_at certificate_text IsCertificate
unfolding certificate_at certificate_text front_text
certificate_pass at new c bytes e =
    let tag = next (byte_at 1) (number_text w8) (λ n. n ≡ 1) (byte_pass 1) _ at (c, new) bytes e in
    let tagged = subst (λ (n : ℕ). Passes at (number_text w8 n) tag.1) tag.3 tag.2 in
    let name = next name_at name_text IsName name_pass _ tag.1 (c, new) tag.4 tag.5 in
    let serial = next (number_at w64) (number_text w64) (λ n. n < 2 ^ 64) (number_pass w64 (2 ^ 64) wide64) _ name.1 (c, new) name.4 name.5 in
    let previous = next digest_at (λ d. d) IsDigest digest_pass _ serial.1 (c, new) serial.4 serial.5 in
    let subject = next certified_key_at key_text HasWidths key_pass _ previous.1 (c, new) previous.4 previous.5 in
    let policy = next terms_at terms_text AreTerms terms_pass _ subject.1 (c, new) subject.4 subject.5 in
    let revoked = next flag_at flag_text (λ _. Unit {0}) flag_pass _ policy.1 (c, new) policy.4 policy.5 in
    let value : Certificate = record { name = name.0; serial = serial.0; previous = previous.0; subject = subject.0; policy = policy.0; revoked = revoked.0 } in
    let keys = Passes-then serial.1 previous.1 subject.1 previous.0 (key_text subject.0) previous.2 subject.2 in
    let front = Passes-then at tag.1 subject.1 (number_text w8 1) _ tagged (Passes-then tag.1 name.1 subject.1 (name_text name.0) _ name.2 (Passes-then name.1 serial.1 subject.1 (number_text w64 serial.0) _ serial.2 keys)) in
    let back = Passes-then subject.1 policy.1 revoked.1 (terms_text policy.0) (flag_text revoked.0) policy.2 revoked.2 in
    let passes = Passes-then at subject.1 revoked.1 (front_text name.0 serial.0 previous.0 subject.0) (terms_text policy.0 ++ flag_text revoked.0) front back in
    let fits : IsCertificate value = record { name = name.3; serial = serial.3; previous = previous.3; subject = subject.3; policy = policy.3 } in
    subst (λ (x : Certificate × Cursor). Passes at (certificate_text x.0) x.1 × IsCertificate x.0) {x = (value, revoked.1)} (ok_is (value, revoked.1) (c, new) revoked.5) (passes, fits)

-- ---- the certificate behind its length

length-certificate_text : (c : Certificate) → IsCertificate c → length (certificate_text c) ≤ 402
unfolding certificate_text
length-certificate_text c h =
    let front = length-front_text c.name c.serial c.previous c.subject h.previous.len (length-key_text c.subject h.subject) in
    let named = short c.name h.name in
    omega (arith, length-append (front_text c.name c.serial c.previous c.subject) (terms_text c.policy ++ flag_text c.revoked), front, named.1, length-append (terms_text c.policy) (flag_text c.revoked), length-terms_text c.policy, h.policy.few, length-flag_text c.revoked)

pub counted_certificate_again : (c : Certificate) → IsCertificate c → ReadsBack counted_certificate_at c (counted_text (certificate_text c))
unfolding counted_certificate_at
counted_certificate_again c h at new p =
    let text = certificate_text c in
    let s = split at new (number_text w16 (length text)) text p in
    rw (number_again w16 (2 ^ 16) wide16 (length text) (omega (arith, length-certificate_text c h)) at s.0 s.1) (within_again certificate_at c text (certificate_again c h) s.0 new s.2)

pub counted_certificate_pass : IsSpelledBy counted_certificate_at (λ c. counted_text (certificate_text c)) IsCertificate
unfolding counted_certificate_at
counted_certificate_pass at new c bytes e =
    let count = next (number_at w16) (number_text w16) (λ n. n < 2 ^ 16) (number_pass w16 (2 ^ 16) wide16) (λ count. within count.0 certificate_at count.1) at (c, new) bytes e in
    let q = within_pass count.0 certificate_at certificate_text IsCertificate certificate_pass count.1 new c count.4 count.5 in
    let both = Passes-then at count.1 new (number_text w16 count.0) (certificate_text c) count.2 q.0 in
    (subst (λ (k : ℕ). Passes at (number_text w16 k ++ certificate_text c) new) (sym q.1.1) both, q.1.0)

-- a certificate that was all that was left
pub certificate_filled : (at new : Cursor) (c : Certificate) → AreBytes at.ahead → certificate_at at ≡ Ok (c, new) → new.ahead ≡ [] → IsCertificate c × (certificate_text c ≡ at.ahead)
certificate_filled at new c bytes e none =
    let p = certificate_pass at new c bytes e in
    (p.1, sym (p.0.bytes ∙ ap (λ (rest : List ℕ). certificate_text c ++ rest) none ∙ append-nil (certificate_text c)))
