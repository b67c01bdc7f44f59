-- A confirmation that is read in place is short enough for a message, and is read as one.
use Rattle.std.proofs.Common.{◌≡◌, ℕ, ◌+◌, ◌/◌, ◌≤◌, List, ◌++◌, length, Ok, sym, ap, ◌∙◌, subst, arith, length-append, cond, true, false}
use Rattle.std.specs.Int.{w8, w16, w64}
use Rattle.ar_base.specs.Bytes.{AreBytes}
use Rattle.ar_bytes.specs.Reading.{whole}
use Rattle.ar_bytes.specs.RoundTrip.{counted_text, number_text}
use Rattle.ar_bytes.proofs.Passing.{length-number_text}
use Rattle.ar_names.proofs.Least.{short}
use Rattle.ar_statement.specs.Claims.{name_text}
use Rattle.lms_tree.proofs.KeyLemmas.{length-key_text}
use Rattle.ar_cert.specs.Certificate.{Certificate, IsCertificate, certificate_text, front_text, terms_text}
use Rattle.ar_bytes.specs.Tested.{flag_text}
use Rattle.ar_cert.proofs.ChangeLaws.{only_text}
use Rattle.ar_cert.proofs.Lengths.{length-flag_text, length-front_text, length-terms_text}
use Rattle.hash_tree.specs.declared.bottom.Bottom.TheVariants.{Empty, Other}
use Rattle.ar_message.specs.Confirmation.{AreSteps, Body, Confirmation, IsBody, IsConfirmation, IsSigned, IsSubject, Signed, Subject, absent, body_text, bottom_text, confirmation_at, confirmation_fields_text, confirmation_text, form_text, is_present, path_text, present, signed_text, signers_text, subject_text}
use Rattle.ar_message.specs.Messages.{IsMessage, fields_text, longest, message_in, message_text, with_confirmation}
use Rattle.ar_message.proofs.ConfirmationLaws.{confirmation_again, confirmation_pass}
use Rattle.ar_message.proofs.ConfirmingLaws.{whole-with}
use Rattle.ar_message.proofs.MessageLaws.{only_messages}
use Rattle.ar_message.proofs.Written.{length-counted}

-- ---- lengths

certificate-short : (c : Certificate) → IsCertificate c → length (certificate_text c) ≤ 402
unfolding certificate_text
certificate-short c h =
    let front = length-front_text c.name c.serial c.previous c.subject h.previous.len (length-key_text c.subject h.subject) in
    let named = short c.name h.name in
    omega (arith, length-append (front_text c.name c.serial c.previous c.subject) (terms_text c.policy ++ flag_text c.revoked), front, named.1, length-append (terms_text c.policy) (flag_text c.revoked), length-terms_text c.policy, h.policy.few, length-flag_text c.revoked)

subject-short : (s : Subject) → IsSubject s → length (subject_text s) ≤ 296
unfolding subject_text
subject-short s h =
    let named = short s.name h.name in
    let rest = name_text s.name ++ s.root in
    omega (arith, length-append (number_text w16 s.client) (number_text w64 s.epoch ++ rest), length-number_text w16 s.client, length-append (number_text w64 s.epoch) rest, length-number_text w64 s.epoch, length-append (name_text s.name) s.root, length-append (number_text w8 (length s.name)) s.name, length-number_text w8 (length s.name), named.1, h.root.len)

body-short : (b : Body) → IsBody b → length (body_text b) ≤ 404
unfolding body_text bottom_text
body-short (present certificate) h = omega (arith, length-counted (certificate_text certificate), certificate-short certificate h)
body-short (absent Empty) h = omega (arith, length-flag_text false)
body-short (absent (Other key value)) h =
    omega (arith, length-append (flag_text true) (key ++ value), length-flag_text true, length-append key value, h.0.len, h.1.len)

path-short : (steps : List ℕ) → AreSteps steps → length (path_text steps) ≤ 8194
path-short steps h =
    omega (arith, length-append (number_text w16 (length steps / 32)) steps, length-number_text w16 (length steps / 32), h.1.0, h.1.1)

signed-short : (s : Signed) → IsSigned s → length (signed_text s) ≤ 65539
signed-short s h = omega (arith, length-append (number_text w16 s.number) (counted_text s.signature), length-number_text w16 s.number, length-counted s.signature, h.1)

signers-short : (log first second : Signed) → IsSigned log → IsSigned first → IsSigned second → length (signers_text (log, first, second)) ≤ 196617
signers-short log first second l f s =
    omega (arith, length-append (signed_text log) (signed_text first ++ signed_text second), length-append (signed_text first) (signed_text second), signed-short log l, signed-short first f, signed-short second s)

confirmation-short : (c : Confirmation) → IsConfirmation c → length (confirmation_text c) ≤ longest
unfolding confirmation_text confirmation_fields_text
confirmation-short c h =
    let signers = signers_text (c.log, c.first, c.second) in
    let steps = path_text c.steps ++ signers in
    let body = body_text c.body ++ steps in
    let about = subject_text c.about ++ body in
    omega (
      arith,
      length-append (number_text w8 12) (form_text (is_present c.body) ++ about),
      length-number_text w8 12,
      length-append (form_text (is_present c.body)) about,
      length-number_text w8 (cond (is_present c.body) 1 2),
      length-append (subject_text c.about) body,
      subject-short c.about h.about,
      length-append (body_text c.body) steps,
      body-short c.body h.body,
      length-append (path_text c.steps) signers,
      path-short c.steps h.steps,
      signers-short c.log c.first c.second h.log h.first h.second,
    )

-- ---- a message

pub read-too : (bytes : List ℕ) (c : Confirmation) → AreBytes bytes → whole confirmation_at bytes ≡ Ok c → message_in bytes ≡ Ok (with_confirmation c)
unfolding message_text fields_text confirmation_text
read-too bytes c are read =
    let known = (only_text confirmation_at confirmation_text IsConfirmation confirmation_again confirmation_pass bytes c are).0 read in
    let fits : IsMessage (with_confirmation c) = subst IsConfirmation (sym (whole-with c)) known.0 in
    let text : message_text (with_confirmation c) ≡ bytes = ap (λ (x : Confirmation). number_text w8 12 ++ confirmation_fields_text x) (whole-with c) ∙ known.1 in
    let few : length bytes ≤ longest = subst (λ (l : List ℕ). length l ≤ longest) known.1 (confirmation-short c known.0) in
    (only_messages bytes (with_confirmation c) are).1 (fits, (text, few))
