-- When one change stands behind another: its endorsements are verified, and the policy rule takes it as a full update.
use Rattle.std.specs.Prelude.{◌≡◌, ℕ, ◌+◌, Bool, List, [], ◌∷◌, All, Some, Result, Ok}
use Rattle.std.specs.Result.{is_ok}
use Rattle.ar_base.specs.Chaining.{◌>>=◌}
use Rattle.ar_base.specs.FirstFailing.{first_failing, tests_of}
use Rattle.ar_base.specs.Gives.{with_error}
use Rattle.ar_cert.specs.Certificate.{Certificate}
use Rattle.ar_cert.specs.Changes.{Change, Endorsement}
use Rattle.ar_cert.specs.Judging.{change_judgement}
use Rattle.ar_council.specs.Endorsements.{endorsed_as}
use Rattle.cert_policy.specs.declared.refusal.PolicyRefusal.{PolicyRefusal}
use Rattle.party_keys.specs.Directory.{Directory}
use Rattle.party_keys.specs.Signatures.{IsVerified, verified}
use Rattle.client_memory.specs.declared.answers.LinkFault.{LinkFault}
use Rattle.client_memory.specs.declared.answers.LinkFault.TheVariants as fault

-- ---- the facts

-- the authority's signature of the certificate's endorsement is valid under its keys
abbrev pub IsEndorsed : Directory → Certificate → Endorsement → Type 0
IsEndorsed keys cert e = IsVerified keys (endorsed_as cert e).party (endorsed_as cert e).text e.signature

-- A change is linked behind a certificate: the rule takes it as a full update, in which the old key hands over where the
-- old policy asks for it, and each of its endorsements is valid.
pub record Linked (keys : Directory) (old : Certificate) (link : Change) : Type 0 where
  pub follows : change_judgement (Some old) link ≡ Ok tt
  pub endorsed : All (IsEndorsed keys link.cert) link.endorsements

-- each of these is linked behind the one before it, and the first behind this certificate
abbrev pub AllLinked : Directory → Certificate → List Change → Type 0
AllLinked keys old [] = Unit {0}
AllLinked keys old (link ∷ links) = Linked keys old link × AllLinked keys link.cert links

-- by the rule alone
abbrev pub AllFollow : Certificate → List Change → Type 0
AllFollow old [] = Unit {0}
AllFollow old (link ∷ links) = (change_judgement (Some old) link ≡ Ok tt) × AllFollow link.cert links

-- ---- the tests

abbrev pub is_endorsed : Directory → Certificate → Endorsement → Bool
is_endorsed keys cert e = is_ok (verified keys (endorsed_as cert e).party (endorsed_as cert e).text e.signature)

-- each endorsement is valid, or the first whose authority is unknown or whose signature is not valid
abbrev pub endorsements_answer : Directory → Certificate → List Endorsement → Result (Unit {0}) LinkFault
endorsements_answer keys cert endorsements =
    first_failing (tests_of (λ e. fault.Endorsement e.authority) (is_endorsed keys cert) endorsements)

-- a change is linked behind a certificate, or its fault: that of its endorsements is the first
abbrev pub link_answer : Directory → Certificate → Change → Result (Unit {0}) LinkFault
link_answer keys old link =
    endorsements_answer keys link.cert link.endorsements >>= λ u. with_error fault.Policy (change_judgement (Some old) link)

-- each of these is linked behind the one before it, and gives the last certificate; or the first that is not, with its
-- place, where the first has this one
unfoldable pub linked : Directory → ℕ → Certificate → List Change → Result Certificate (ℕ × LinkFault)
linked keys place old [] = Ok old
linked keys place old (link ∷ links) =
    with_error (λ why. (place, why)) (link_answer keys old link) >>= λ u. linked keys (place + 1) link.cert links

-- each of these follows the one before it by the rule alone, or the first that does not, with its place
unfoldable pub followed : ℕ → Certificate → List Change → Result (Unit {0}) (ℕ × PolicyRefusal)
followed place old [] = Ok tt
followed place old (link ∷ links) =
    with_error (λ why. (place, why)) (change_judgement (Some old) link) >>= λ u. followed (place + 1) link.cert links
