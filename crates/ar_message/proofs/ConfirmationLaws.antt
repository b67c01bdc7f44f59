-- A confirmation: what was put is read again, and what is read is spelled so.
use Rattle.std.proofs.Common.{◌≡◌, ℕ, zero, suc, ◌+◌, ◌*◌, ◌/◌, ◌^◌, ◌<◌, ◌≤◌, Bool, true, false, ◌&&◌, eqb, leb, ltb, cond, List, ◌++◌, length, take, drop, Ok, refl, sym, ap, subst, arith, length-append}
use Rattle.std.specs.Int.{w8, w16, w64}
use Rattle.std.proofs.lemmas.Bool.{and_parts, le-leb, leb-true, le-ltb, ltb-false}
use Rattle.std.proofs.lemmas.List.{take_at, drop_at, take-append-drop, length-take}
use Rattle.ar_base.specs.Bytes.{AreBytes, IsDigest}
use Rattle.ar_base.specs.Ranges.{is_from_to}
use Rattle.ar_base.proofs.Shown.{ok_is}
use Rattle.ar_bytes.specs.Reading.{Cursor, Reading, behind, counted_at, number_at, such_that}
use Rattle.ar_bytes.specs.RoundTrip.{Passes, ReadsBack, IsSpelledBy, number_text, counted_text}
use Rattle.ar_bytes.specs.Tested.{byte_at, flag_at, flag_text}
use Rattle.ar_bytes.proofs.Steps.{guard_ok, Passes-then, split, next}
use Rattle.ar_bytes.proofs.Passing.{counted_again, counted_pass, number_again, number_pass, wide8, wide16}
use Rattle.ar_bytes.proofs.Parts.{such_that_again, such_that_pass}
use Rattle.ar_bytes.proofs.TestedFields.{byte_again, byte_pass, flag_again, flag_pass}
use Rattle.ar_names.specs.Names.{IsName}
use Rattle.ar_statement.specs.Claims.{name_text}
use Rattle.ar_statement.specs.Fields.{IsEpoch, digest_at, epoch_at, name_at}
use Rattle.ar_statement.proofs.FieldLaws.{digest_again, digest_pass, epoch_again, epoch_pass, name_again, name_pass}
use Rattle.ar_cert.specs.Certificate.{IsCertificate, certificate_text, counted_certificate_at}
use Rattle.ar_cert.proofs.CertificateLaws.{counted_certificate_again, counted_certificate_pass}
use Rattle.hash_tree.specs.declared.bottom.Bottom.{Bottom}
use Rattle.hash_tree.specs.declared.bottom.Bottom.TheVariants.{Empty, Other}
use Rattle.ar_message.specs.Confirmation.{Subject, Body, present, absent, Signed, Confirmation, form_at, subject_at, entry_at, bottom_at, body_at, steps_at, path_at, signed_at, signers_at, confirmation_fields_at, confirmation_at, is_present, form_text, subject_text, bottom_text, body_text, path_text, signed_text, signers_text, confirmation_fields_text, confirmation_text, IsSubject, IsBottom, IsBody, AreSteps, IsSigned, IsConfirmation}

-- ---- the form

pub form_again : (b : Bool) → ReadsBack form_at b (form_text b)
unfolding form_at
form_again true at new p =
    rw (such_that_again (is_from_to 1 2) (number_at w8) 1 (number_text w8 1) (number_again w8 (2 ^ 8) wide8 1 (omega arith)) refl at new p) refl
form_again false at new p =
    rw (such_that_again (is_from_to 1 2) (number_at w8) 2 (number_text w8 2) (number_again w8 (2 ^ 8) wide8 2 (omega arith)) refl at new p) refl

form_number : (n : ℕ) → (leb 1 n && leb n 2) ≡ true → number_text w8 n ≡ number_text w8 (cond (eqb n 1) 1 2)
form_number zero e = absurd cc
form_number (suc zero) e = refl
form_number (suc (suc zero)) e = refl
form_number (suc (suc (suc n))) e = absurd (omega (arith, leb-true (suc (suc (suc n))) 2 (and_parts (leb 1 (suc (suc (suc n)))) (leb (suc (suc (suc n))) 2) e).1))

pub form_pass : IsSpelledBy form_at form_text (λ _. Unit {0})
unfolding form_at
form_pass at new b bytes e =
    let n = next (such_that (is_from_to 1 2) (number_at w8)) (number_text w8) (λ n. (n < 2 ^ 8) × ((leb 1 n && leb n 2) ≡ true)) (such_that_pass (is_from_to 1 2) (number_at w8) (number_text w8) (λ n. n < 2 ^ 8) (number_pass w8 (2 ^ 8) wide8)) (λ n. Ok (eqb n.0 1, n.1)) at (b, new) bytes e in
    let form = subst (λ (t : List ℕ). Passes at t n.1) (form_number n.0 n.3.1) n.2 in
    subst (λ (x : Bool × Cursor). Passes at (form_text x.0) x.1 × Unit {0}) (ok_is (eqb n.0 1, n.1) (b, new) n.5) (form, tt)

-- ---- the subject

pub subject_again : (s : Subject) → IsSubject s → ReadsBack subject_at s (subject_text s)
unfolding subject_at subject_text
subject_again s h at new p =
    let client = split at new (number_text w16 s.client) _ p in
    let epoch = split client.0 new (number_text w64 s.epoch) _ client.2 in
    let name = split epoch.0 new (name_text s.name) s.root epoch.2 in
    rw (number_again w16 (2 ^ 16) wide16 s.client h.client at client.0 client.1, epoch_again s.epoch h.epoch client.0 epoch.0 epoch.1, name_again s.name h.name epoch.0 name.0 name.1, digest_again s.root h.root name.0 new name.2) refl

pub subject_pass : IsSpelledBy subject_at subject_text IsSubject
unfolding subject_at subject_text
subject_pass at new s bytes e =
    let client = next (number_at w16) (number_text w16) (λ n. n < 2 ^ 16) (number_pass w16 (2 ^ 16) wide16) _ at (s, new) bytes e in
    let epoch = next epoch_at (number_text w64) IsEpoch epoch_pass _ client.1 (s, new) client.4 client.5 in
    let name = next name_at name_text IsName name_pass _ epoch.1 (s, new) epoch.4 epoch.5 in
    let root = next digest_at (λ d. d) IsDigest digest_pass _ name.1 (s, new) name.4 name.5 in
    let value : Subject = record { client = client.0; epoch = epoch.0; name = name.0; root = root.0 } in
    let back = Passes-then epoch.1 name.1 root.1 (name_text name.0) root.0 name.2 root.2 in
    let passes = Passes-then at client.1 root.1 (number_text w16 client.0) _ client.2 (Passes-then client.1 epoch.1 root.1 (number_text w64 epoch.0) _ epoch.2 back) in
    let fits : IsSubject value = record { client = client.3; epoch = epoch.3; name = name.3; root = root.3 } in
    subst (λ (x : Subject × Cursor). Passes at (subject_text x.0) x.1 × IsSubject x.0) (ok_is (value, root.1) (s, new) root.5) (passes, fits)

-- ---- the body

bottom_again : (b : Bottom) → IsBottom b → ReadsBack bottom_at b (bottom_text b)
unfolding bottom_at bottom_text entry_at
bottom_again Empty h at new p = rw (flag_again false at new p) refl
bottom_again (Other key value) h at new p =
    let flag = split at new (flag_text true) (key ++ value) p in
    let entry = split flag.0 new key value flag.2 in
    rw (flag_again true at flag.0 flag.1, digest_again key h.0 flag.0 entry.0 entry.1, digest_again value h.1 entry.0 new entry.2) refl

-- what stands behind the flag
abbrev behind_flag : Bool × Cursor → Reading Bottom
behind_flag x = cond x.0 (entry_at x.1) (Ok (Empty, x.1))

bottom_rest : (flag : Bool) (at mid new : Cursor) (b : Bottom) → Passes at (flag_text flag) mid → AreBytes mid.ahead → behind_flag (flag, mid) ≡ Ok (b, new) → Passes at (bottom_text b) new × IsBottom b
unfolding bottom_text entry_at
bottom_rest false at mid new b p bytes e =
    subst (λ (x : Bottom × Cursor). Passes at (bottom_text x.0) x.1 × IsBottom x.0) (ok_is {A = Bottom × Cursor} (Empty, mid) (b, new) e) (p, tt)
bottom_rest true at mid new b p bytes e =
    let key = next digest_at (λ d. d) IsDigest digest_pass _ mid (b, new) bytes e in
    let value = next digest_at (λ d. d) IsDigest digest_pass _ key.1 (b, new) key.4 key.5 in
    let passes = Passes-then at mid value.1 (flag_text true) _ p (Passes-then mid key.1 value.1 key.0 value.0 key.2 value.2) in
    subst (λ (x : Bottom × Cursor). Passes at (bottom_text x.0) x.1 × IsBottom x.0) (ok_is {A = Bottom × Cursor} (Other key.0 value.0, value.1) (b, new) value.5) (passes, (key.3, value.3))

bottom_pass : IsSpelledBy bottom_at bottom_text IsBottom
unfolding bottom_at
bottom_pass at new b bytes e =
    let flag = next flag_at flag_text (λ _. Unit {0}) flag_pass behind_flag at (b, new) bytes e in
    bottom_rest flag.0 at flag.1 new b flag.2 flag.4 flag.5

pub body_again : (b : Body) → IsBody b → ReadsBack (body_at (is_present b)) b (body_text b)
unfolding body_at body_text
body_again (present certificate) h at new p = rw (counted_certificate_again certificate h at new p) refl
body_again (absent bottom) h at new p = rw (bottom_again bottom h at new p) refl

pub body_pass : (form : Bool) → IsSpelledBy (body_at form) body_text (λ b. IsBody b × (is_present b ≡ form))
unfolding body_at body_text
body_pass true at new b bytes e =
    let cert = next counted_certificate_at (λ c. counted_text (certificate_text c)) IsCertificate counted_certificate_pass (λ c. Ok (present c.0, c.1)) at (b, new) bytes e in
    subst (λ (x : Body × Cursor). Passes at (body_text x.0) x.1 × (IsBody x.0 × (is_present x.0 ≡ true))) (ok_is {A = Body × Cursor} (present cert.0, cert.1) (b, new) cert.5) (cert.2, (cert.3, refl))
body_pass false at new b bytes e =
    let bottom = next bottom_at bottom_text IsBottom bottom_pass (λ c. Ok (absent c.0, c.1)) at (b, new) bytes e in
    subst (λ (x : Body × Cursor). Passes at (body_text x.0) x.1 × (IsBody x.0 × (is_present x.0 ≡ false))) (ok_is {A = Body × Cursor} (absent bottom.0, bottom.1) (b, new) bottom.5) (bottom.2, (bottom.3, refl))

-- ---- the path

steps_again : (count : ℕ) (steps : List ℕ) → length steps ≡ 32 * count → ReadsBack (steps_at count) steps steps
unfolding steps_at
steps_again count steps len at new p =
    let long : ltb (length at.ahead) (32 * count) ≡ false = le-ltb _ _ (omega (arith, ap length p.bytes, length-append steps new.ahead, len)) in
    let front : take (32 * count) at.ahead ≡ steps = rw p.bytes (take_at steps new.ahead (32 * count) len) in
    let rest : drop (32 * count) at.ahead ≡ new.ahead = rw p.bytes (drop_at steps new.ahead (32 * count) len) in
    let place : at.place + 32 * count ≡ new.place = omega (arith, len, p.place) in
    rw (long, front, rest, place) refl

steps_pass : (count : ℕ) → IsSpelledBy (steps_at count) (λ steps. steps) (λ steps. length steps ≡ 32 * count)
unfolding steps_at
steps_pass count at new steps bytes e =
    let g = guard_ok (ltb (length at.ahead) (32 * count)) (at.place + 32 * (length at.ahead / 32)) (take (32 * count) at.ahead, behind (32 * count) at) (steps, new) e in
    let long : 32 * count ≤ length at.ahead = ltb-false _ _ g.0 in
    let len : length (take (32 * count) at.ahead) ≡ 32 * count = omega (arith, length-take (32 * count) at.ahead) in
    let passes : Passes at (take (32 * count) at.ahead) (behind (32 * count) at) = record { bytes = sym (take-append-drop (32 * count) at.ahead); place = omega (arith, len) } in
    subst (λ (x : List ℕ × Cursor). Passes at x.0 x.1 × (length x.0 ≡ 32 * count)) g.1 (passes, len)

pub path_again : (steps : List ℕ) → AreSteps steps → ReadsBack path_at steps (path_text steps)
unfolding path_at
path_again steps h at new p =
    let few : length steps / 32 ≤ 256 = omega (arith, h.1.0, h.1.1) in
    let len : length steps ≡ 32 * (length steps / 32) = omega (arith, h.1.1) in
    let s = split at new (number_text w16 (length steps / 32)) steps p in
    rw (such_that_again (λ n. leb n 256) (number_at w16) (length steps / 32) (number_text w16 (length steps / 32)) (number_again w16 (2 ^ 16) wide16 (length steps / 32) (omega (arith, few))) (le-leb (length steps / 32) 256 few) at s.0 s.1) (steps_again (length steps / 32) steps len s.0 new s.2)

pub path_pass : IsSpelledBy path_at path_text AreSteps
unfolding path_at
path_pass at new steps bytes e =
    let count = next (such_that (λ n. leb n 256) (number_at w16)) (number_text w16) (λ n. (n < 2 ^ 16) × (leb n 256 ≡ true)) (such_that_pass (λ n. leb n 256) (number_at w16) (number_text w16) (λ n. n < 2 ^ 16) (number_pass w16 (2 ^ 16) wide16)) (λ count. steps_at count.0 count.1) at (steps, new) bytes e in
    let q = steps_pass count.0 count.1 new steps count.4 count.5 in
    let both = Passes-then at count.1 new (number_text w16 count.0) steps count.2 q.0 in
    let same : count.0 ≡ length steps / 32 = omega (arith, q.1) in
    (subst (λ (k : ℕ). Passes at (number_text w16 k ++ steps) new) same both, (count.0, (leb-true count.0 256 count.3.1, q.1)))

-- ---- a party and its signature

pub signed_again : (s : Signed) → IsSigned s → ReadsBack signed_at s (signed_text s)
unfolding signed_at
signed_again s h at new p =
    let number = split at new (number_text w16 s.number) (counted_text s.signature) p in
    rw (number_again w16 (2 ^ 16) wide16 s.number h.0 at number.0 number.1, counted_again s.signature h.1 number.0 new number.2) refl

pub signed_pass : IsSpelledBy signed_at signed_text IsSigned
unfolding signed_at
signed_pass at new s bytes e =
    let number = next (number_at w16) (number_text w16) (λ n. n < 2 ^ 16) (number_pass w16 (2 ^ 16) wide16) _ at (s, new) bytes e in
    let signature = next counted_at counted_text (λ t. length t < 2 ^ 16) (λ a n x. counted_pass a n x) _ number.1 (s, new) number.4 number.5 in
    let value : Signed = record { number = number.0; signature = signature.0 } in
    let passes = Passes-then at number.1 signature.1 (number_text w16 number.0) (counted_text signature.0) number.2 signature.2 in
    subst (λ (x : Signed × Cursor). Passes at (signed_text x.0) x.1 × IsSigned x.0) (ok_is (value, signature.1) (s, new) signature.5) (passes, (number.3, signature.3))

-- the three that sign
abbrev AreSigned : Signed × Signed × Signed → Type 0
AreSigned s = IsSigned s.0 × IsSigned s.1 × IsSigned s.2

signers_again : (s : Signed × Signed × Signed) → AreSigned s → ReadsBack signers_at s (signers_text s)
unfolding signers_at
signers_again s h at new p =
    let log = split at new (signed_text s.0) _ p in
    let first = split log.0 new (signed_text s.1) (signed_text s.2) log.2 in
    rw (signed_again s.0 h.0 at log.0 log.1, signed_again s.1 h.1 log.0 first.0 first.1, signed_again s.2 h.2 first.0 new first.2) refl

signers_pass : IsSpelledBy signers_at signers_text AreSigned
unfolding signers_at
signers_pass at new s bytes e =
    let log = next signed_at signed_text IsSigned signed_pass _ at (s, new) bytes e in
    let first = next signed_at signed_text IsSigned signed_pass _ log.1 (s, new) log.4 log.5 in
    let second = next signed_at signed_text IsSigned signed_pass _ first.1 (s, new) first.4 first.5 in
    let passes = Passes-then at log.1 second.1 (signed_text log.0) _ log.2 (Passes-then log.1 first.1 second.1 (signed_text first.0) (signed_text second.0) first.2 second.2) in
    subst (λ (x : (Signed × Signed × Signed) × Cursor). Passes at (signers_text x.0) x.1 × AreSigned x.0) (ok_is ((log.0, first.0, second.0), second.1) (s, new) second.5) (passes, (log.3, first.3, second.3))

-- ---- the confirmation

pub confirmation_fields_again : (c : Confirmation) → IsConfirmation c → ReadsBack confirmation_fields_at c (confirmation_fields_text c)
unfolding confirmation_fields_at confirmation_fields_text
confirmation_fields_again c h at new p =
    let form = split at new (form_text (is_present c.body)) _ p in
    let about = split form.0 new (subject_text c.about) _ form.2 in
    let body = split about.0 new (body_text c.body) _ about.2 in
    let steps = split body.0 new (path_text c.steps) _ body.2 in
    rw (form_again (is_present c.body) at form.0 form.1, subject_again c.about h.about form.0 about.0 about.1, body_again c.body h.body about.0 body.0 body.1, path_again c.steps h.steps body.0 steps.0 steps.1, signers_again (c.log, c.first, c.second) (h.log, h.first, h.second) steps.0 new steps.2) refl

pub confirmation_fields_pass : IsSpelledBy confirmation_fields_at confirmation_fields_text IsConfirmation
unfolding confirmation_fields_at confirmation_fields_text
confirmation_fields_pass at new c bytes e =
    let form = next form_at form_text (λ _. Unit {0}) form_pass _ at (c, new) bytes e in
    let about = next subject_at subject_text IsSubject subject_pass _ form.1 (c, new) form.4 form.5 in
    let body = next (body_at form.0) body_text (λ b. IsBody b × (is_present b ≡ form.0)) (body_pass form.0) _ about.1 (c, new) about.4 about.5 in
    let steps = next path_at path_text AreSteps path_pass _ body.1 (c, new) body.4 body.5 in
    let signers = next signers_at signers_text AreSigned signers_pass _ steps.1 (c, new) steps.4 steps.5 in
    let value : Confirmation = record { about = about.0; body = body.0; steps = steps.0; log = signers.0.0; first = signers.0.1; second = signers.0.2 } in
    let formed = subst (λ (b : Bool). Passes at (form_text b) form.1) (sym body.3.1) form.2 in
    let back = Passes-then body.1 steps.1 signers.1 (path_text steps.0) (signers_text signers.0) steps.2 signers.2 in
    let shown = Passes-then about.1 body.1 signers.1 (body_text body.0) (path_text steps.0 ++ signers_text signers.0) body.2 back in
    let all = Passes-then form.1 about.1 signers.1 (subject_text about.0) (body_text body.0 ++ (path_text steps.0 ++ signers_text signers.0)) about.2 shown in
    let passes = Passes-then at form.1 signers.1 (form_text (is_present body.0)) (subject_text about.0 ++ (body_text body.0 ++ (path_text steps.0 ++ signers_text signers.0))) formed all in
    let fits : IsConfirmation value = record { about = about.3; body = body.3.0; steps = steps.3; log = signers.3.0; first = signers.3.1; second = signers.3.2 } in
    subst (λ (x : Confirmation × Cursor). Passes at (confirmation_fields_text x.0) x.1 × IsConfirmation x.0) (ok_is (value, signers.1) (c, new) signers.5) (passes, fits)

pub confirmation_again : (c : Confirmation) → IsConfirmation c → ReadsBack confirmation_at c (confirmation_text c)
unfolding confirmation_at confirmation_text
confirmation_again c h at new p =
    let kind = split at new (number_text w8 12) (confirmation_fields_text c) p in
    rw (byte_again 12 (omega arith) at kind.0 kind.1) (confirmation_fields_again c h kind.0 new kind.2)

pub confirmation_pass : IsSpelledBy confirmation_at confirmation_text IsConfirmation
unfolding confirmation_at confirmation_text
confirmation_pass at new c bytes e =
    let kind = next (byte_at 12) (number_text w8) (λ n. n ≡ 12) (byte_pass 12) _ at (c, new) bytes e in
    let fields = confirmation_fields_pass kind.1 new c kind.4 kind.5 in
    let twelve = subst (λ (k : ℕ). Passes at (number_text w8 k) kind.1) kind.3 kind.2 in
    (Passes-then at kind.1 new (number_text w8 12) (confirmation_fields_text c) twelve fields.0, fields.1)
