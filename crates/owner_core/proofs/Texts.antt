-- How long signatures are, and where an objection's stands in its text.
use Rattle.std.proofs.Common.{◌≡◌, ℕ, ◌+◌, ◌<◌, ◌≤◌, ◌^◌, arith}
use Rattle.lm_ots.specs.OtsKind.{signature_len_of}
use Rattle.lm_ots.specs.declared.ots_type.OtsType.{OtsType}
use Rattle.lm_ots.specs.declared.ots_type.OtsType.TheVariants as ots
use Rattle.lms_tree.specs.LmsKind.{height_of}
use Rattle.lms_tree.specs.Signature.{lms_signature_len_of}
use Rattle.lms_tree.specs.declared.lms_type.LmsType.{LmsType}
use Rattle.lms_tree.specs.declared.lms_type.LmsType.TheVariants as lms
use Rattle.std.proofs.Common.{List, ◌++◌, ◌-◌, length, take, append_assoc, ap, sym, ◌∙◌, subst, length-append}
use Rattle.std.proofs.Math.Seq.{take-append_seam}
use Rattle.std.specs.Int.{w8, w16}
use Rattle.ar_bytes.specs.RoundTrip.{counted_text, number_text}
use Rattle.ar_cert.specs.Certificate.{Certificate, certificate_text}
use Rattle.ar_cert.specs.Changes.{change_text, consent_text}
use Rattle.ar_message.specs.Messages.{fields_text, message_text}
use Rattle.ar_message.specs.declared.message.Message.TheVariants.{Submit}
use Rattle.owner_core.specs.Objecting.{AwaitsSignature, objection}

ots-len : (kind : OtsType) → signature_len_of kind ≤ 8516
ots-len ots.W1 = omega arith
ots-len ots.W2 = omega arith
ots-len ots.W4 = omega arith
ots-len ots.W8 = omega arith

height-most : (kind : LmsType) → height_of kind ≤ 25
height-most lms.H5 = omega arith
height-most lms.H10 = omega arith
height-most lms.H15 = omega arith
height-most lms.H20 = omega arith
height-most lms.H25 = omega arith

-- each signature fits into a message, also with a generation in front
pub signature_fits : (tree : LmsType) (kind : OtsType) → 4 + lms_signature_len_of tree kind < 2 ^ 16
signature_fits tree kind = omega (arith, ots-len kind, height-most tree)

-- what stands in front of an objection's signature, where that has so many bytes
front : Certificate → ℕ → List ℕ
front cert n = number_text w8 3 ++ (counted_text (certificate_text cert) ++ (number_text w8 0 ++ (number_text w8 2 ++ number_text w16 n)))

objection-text : (cert : Certificate) (s : List ℕ) → message_text (Submit (objection cert s)) ≡ front cert (length s) ++ s
unfolding message_text fields_text change_text consent_text front
objection-text cert s = simp append_assoc

taken : (xs ys : List ℕ) (n : ℕ) → length ys ≡ n → take (length (xs ++ ys) - n) (xs ++ ys) ≡ xs
taken xs ys n e =
    let le : length (xs ++ ys) - n ≡ length xs = omega (arith, length-append xs ys) in
    rw le (take-append_seam xs ys)

-- the text of an objection with another signature of the same length is the text with its last bytes replaced
pub objection_signed : (cert : Certificate) (zeros s : List ℕ) (n : ℕ) → length zeros ≡ n → length s ≡ n
    → take (length (message_text (Submit (objection cert zeros))) - n) (message_text (Submit (objection cert zeros))) ++ s ≡ message_text (Submit (objection cert s))
objection_signed cert zeros s n e k =
    rw (objection-text cert zeros, objection-text cert s, taken (front cert (length zeros)) zeros n e)
    (ap (λ m. front cert m ++ s) (e ∙ sym k))

-- the text of an objection is as long as its signature at least
pub objection_long : (cert : Certificate) (zeros : List ℕ) → length zeros ≤ length (message_text (Submit (objection cert zeros)))
objection_long cert zeros = rw (objection-text cert zeros) (omega (arith, length-append (front cert (length zeros)) zeros))

-- such a text with as many zeros awaits its signature
pub awaits : (cert : Certificate) (zeros text : List ℕ) (n : ℕ) → text ≡ message_text (Submit (objection cert zeros)) → length zeros ≡ n → AwaitsSignature n cert text
awaits cert zeros text n e k =
    subst (AwaitsSignature n cert) (sym e) (subst (λ m. m ≤ length (message_text (Submit (objection cert zeros)))) k (objection_long cert zeros), λ s is. objection_signed cert zeros s n k is)

pub ruleset unsigned = (signature_fits, awaits)
