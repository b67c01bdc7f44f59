-- How the policy rule judges changes: what it reads of a certificate, who endorses, and when the key before
-- hands over or objects; and which lists of changes are the chain of a name.
use Rattle.std.specs.Prelude.{◌≡◌, ℕ, ◌+◌, ◌<◌, ◌⊎◌, nat_lt, Bool, true, false, ◌&&◌, if◌then◌else◌, List, [], ◌∷◌, map, length, get_or, Option, Some, None, is_some, Result, Ok, Err, IsTrue, IsSome, IsNone}
use Rattle.std.specs.Str.{bytes_eq}
use Rattle.ar_base.specs.FirstFailing.{first_failing}
use Rattle.ar_statement.specs.Claims.{text_of}
use Rattle.ar_statement.specs.Claims as claims
use Rattle.lms_tree.specs.declared.public_key.LmsPublic.{LmsPublic}
use Rattle.lms_tree.specs.declared.validity.Verdict.{Verdict}
use Rattle.lms_tree.specs.declared.validity.Verdict.TheVariants.{Valid, Invalid}
use Rattle.lms_tree.specs.Validity.{verdict_of}
use Rattle.cert_policy.specs.declared.refusal.PolicyRefusal.{PolicyRefusal}
use Rattle.cert_policy.specs.Terms.{CertTerms}
use Rattle.cert_policy.specs.declared.refusal.PolicyRefusal.TheVariants.{Previous, NotPending, Objection}
use Rattle.cert_policy.specs.declared.manner.Manner.{Manner}
use Rattle.cert_policy.specs.declared.manner.Manner.TheVariants.{Full, Recovery, Objected}
use Rattle.cert_policy.specs.Refusals.{Clause, number_of}
use Rattle.cert_policy.specs.Clauses.{follow_answer, registration_answer, update_answer, in_manner, IsUpdate, Registers}
use Rattle.ar_cert.specs.Certificate.{Certificate, digest_of}
use Rattle.ar_cert.specs.Changes.{Change}

-- ---- what the rule reads

-- the terms of a certificate, with its digest
abbrev pub cert_terms_of : Certificate → CertTerms
cert_terms_of c = record { name = c.name; serial = c.serial; previous = c.previous; digest = digest_of c; revoked = c.revoked; policy = c.policy }

-- the authorities that endorse a change
abbrev pub endorsers_of : Change → List ℕ
endorsers_of change = map (λ v. v.authority) change.endorsements

abbrev pub is_valid : Verdict → Bool
is_valid Valid = true
is_valid (Invalid k) = false

-- whether there is a signature, and it is valid under the key for this text
abbrev pub is_signed : LmsPublic → List ℕ → Option (List ℕ) → Bool
is_signed key text None = false
is_signed key text (Some signature) = is_valid (verdict_of key text signature)

-- whether the old policy asks for a handover, and the subject key of the old certificate hands over to the
-- change's
abbrev pub is_handed_over : Certificate → Change → Bool
is_handed_over old change = old.policy.keyed && is_signed old.subject (text_of (claims.handover (digest_of change.cert))) change.handover

-- whether the subject key of the old certificate objects to the change's
abbrev pub is_objected_to : Certificate → Change → Bool
is_objected_to old change = is_signed old.subject (text_of (claims.object (digest_of change.cert))) change.objection

-- ---- a change, where nothing is known of what is pending

-- with an objection the fourth clause counts as failed: the answer is a clause before it that fails, or it
abbrev pub with_fourth_failed : Result (Unit {0}) PolicyRefusal → Result (Unit {0}) PolicyRefusal
with_fourth_failed (Ok u) = Err Previous
with_fourth_failed (Err refusal) = if nat_lt (number_of refusal) 4 then Err refusal else Err Previous

abbrev pub by_objection : Option (List ℕ) → Result (Unit {0}) PolicyRefusal → Result (Unit {0}) PolicyRefusal
by_objection None answer = answer
by_objection (Some objection) answer = with_fourth_failed answer

-- Whether a change registers its name, where there is no old certificate, or else follows the old one; or
-- the least clause that fails.
abbrev pub change_judgement : Option Certificate → Change → Result (Unit {0}) PolicyRefusal
change_judgement None change = by_objection change.objection (registration_answer (cert_terms_of change.cert) (endorsers_of change))
change_judgement (Some old) change = by_objection change.objection (follow_answer (cert_terms_of old) (cert_terms_of change.cert) (endorsers_of change) (is_handed_over old change))

-- what it is that a change registers its name
pub record IsRegistration (change : Change) : Type 0 where
  pub plain : IsNone change.objection
  pub registers : Registers (cert_terms_of change.cert) (endorsers_of change)

-- ---- a change behind an old certificate, where it is known what is pending

-- whether this is the digest of what is pending
abbrev pub is_pending : Option (List ℕ) → List ℕ → Bool
is_pending None digest = false
is_pending (Some pending) digest = bytes_eq pending digest

-- the clauses of an objection: the change's certificate is pending, and the old key objects to it
abbrev pub objection_clauses : Certificate → Option (List ℕ) → Change → List Clause
objection_clauses old pending change =
    (NotPending, is_pending pending (digest_of change.cert)) ∷ ((Objection, is_objected_to old change) ∷ [])

-- How a change is taken behind the old certificate, by the digest of what is pending, or else the least clause
-- that fails.
abbrev pub update_judgement : Certificate → Option (List ℕ) → Change → Result Manner PolicyRefusal
update_judgement old pending change =
    if is_some change.objection
    then in_manner Objected (first_failing (objection_clauses old pending change))
    else update_answer (cert_terms_of old) (cert_terms_of change.cert) (endorsers_of change) (is_handed_over old change) (is_some pending)

-- what it is that a change is an objection to what is pending
pub record IsObjection (old : Certificate) (pending : Option (List ℕ)) (change : Change) : Type 0 where
  pub objects : IsSome change.objection
  pub waits : pending ≡ Some (digest_of change.cert)
  pub valid : IsTrue (is_objected_to old change)

-- what it is that a change without an objection is taken in a manner
pub record IsTakenIn (manner : Manner) (old : Certificate) (pending : Bool) (change : Change) : Type 0 where
  pub plain : IsNone change.objection
  pub updates : IsUpdate manner (cert_terms_of old) (cert_terms_of change.cert) (endorsers_of change) (is_handed_over old change) pending

-- what it is that a change is accepted in a chain: it registers the name, or follows the old certificate, fully or
-- as a recovery with nothing pending
unfoldable pub IsAccepted : Option Certificate → Change → Type 0
IsAccepted None change = IsRegistration change
IsAccepted (Some old) change = IsTakenIn Full old false change ⊎ IsTakenIn Recovery old false change

-- ---- chains

-- each change is accepted behind the certificate of the one before it
abbrev pub EachFollows : List Change → Type 0
EachFollows changes = (k : ℕ) (d : Change) → k + 1 < length changes → IsAccepted (Some (get_or changes k d).cert) (get_or changes (k + 1) d)

-- The changes are the chain of a name: there is one, the first registers the name, and each next one is
-- accepted behind the one before it.
pub record IsChain (changes : List Change) : Type 0 where
  pub some : 0 < length changes
  pub first : (d : Change) → IsAccepted None (get_or changes 0 d)
  pub next : EachFollows changes
