-- What a client accepts: the checks of a confirmation in their order, and the first that fails.
use Rattle.std.specs.Prelude.{ℕ, ◌-◌, ◌==◌, nat_le, nat_lt, Bool, true, not, ◌&&◌, List, [], ◌∷◌, length, Option, Some, None, Result, Ok, Err}
use Rattle.std.specs.Result.{is_ok, result_ok}
use Rattle.std.specs.Str.{bytes_eq}
use Rattle.ar_base.specs.FirstFailing.{first_failing}
use Rattle.ar_bytes.specs.Reading.{whole}
use Rattle.ar_statement.specs.Claims.{Claim, authority_party, confirmation_by, log_party, text_of}
use Rattle.ar_statement.specs.declared.party.Party.{Party}
use Rattle.ar_cert.specs.Certificate.{digest_of}
use Rattle.ar_message.specs.Shown.{is_shown}
use Rattle.ar_message.specs.Confirmation.{Subject, Body, present, absent, Confirmation, confirmation_at, digest_in}
use Rattle.party_keys.specs.Directory.{Directory}
use Rattle.party_keys.specs.Signatures.{verified}
use Rattle.client_rule.specs.declared.judgement.Judgement.{Judgement}
use Rattle.client_rule.specs.declared.judgement.Judgement.TheVariants.{Accepted, Absent, Refused}

-- what is asked: the directory that is trusted, the name, the epoch, and the age that is allowed
pub record Asked : Type 0 where
  pub keys : Directory
  pub name : List ℕ
  pub epoch : ℕ
  pub age : ℕ

-- ---- the checks

-- the directory has the log and both authorities, and the authorities are two
abbrev pub has_parties : Directory → Confirmation → Bool
has_parties keys c =
    nat_lt c.log.number (length keys.logs)
    && (nat_lt c.first.number (length keys.authorities)
    && (nat_lt c.second.number (length keys.authorities)
    && not (c.first.number == c.second.number)))

-- what each of the three signs: that at the end of the epoch the name has the certificate, or none
abbrev pub claim_on : Subject → Body → Party → Claim
claim_on about body signer = confirmation_by signer about.epoch about.name (digest_in body) about.root

-- the party signed its own statement of it
unfoldable pub confirms : Directory → Subject → Body → Party → List ℕ → Bool
confirms keys about body signer signature = is_ok (verified keys signer (text_of (claim_on about body signer)) signature)

-- so many epochs after its own, the confirmation is not older than the client and the certificate allow
abbrev pub is_young : ℕ → ℕ → Body → Bool
is_young after age (present certificate) = nat_le after age && nat_le after certificate.policy.max_age
is_young after age (absent bottom) = nat_le after age

-- the certificate, if there is one, is not revoked
abbrev pub is_live : Body → Bool
is_live (present certificate) = not certificate.revoked
is_live (absent bottom) = true

-- and has not expired
abbrev pub is_current : ℕ → Body → Bool
is_current epoch (present certificate) = nat_le epoch certificate.policy.until
is_current epoch (absent bottom) = true

-- the checks of what was read: 2 the name is the one that was asked for, 3 the parties, 4 the log's
-- signature, 5 the first authority's, 6 the second's, 7 the path, 8 the epoch is not in the future, 9 the
-- age, 10 the certificate is not revoked, 11 nor expired
abbrev pub checks : Asked → Confirmation → List (ℕ × Bool)
checks asked c =
    (2, bytes_eq c.about.name asked.name)
    ∷ (3, has_parties asked.keys c)
    ∷ (4, confirms asked.keys c.about c.body (log_party c.log.number) c.log.signature)
    ∷ (5, confirms asked.keys c.about c.body (authority_party c.first.number) c.first.signature)
    ∷ (6, confirms asked.keys c.about c.body (authority_party c.second.number) c.second.signature)
    ∷ (7, is_shown c.about c.body c.steps)
    ∷ (8, nat_le c.about.epoch asked.epoch)
    ∷ (9, is_young (asked.epoch - c.about.epoch) asked.age c.body)
    ∷ (10, is_live c.body)
    ∷ (11, is_current asked.epoch c.body)
    ∷ []

-- ---- the judgement

-- the number of the first check that refuses a confirmation
unfoldable pub refusal_of : Asked → Confirmation → Result (Unit {0}) ℕ
refusal_of asked c = first_failing (checks asked c)

-- what is accepted: the certificate, or that there is none
abbrev pub accepted_body : Subject → Body → Judgement
accepted_body about (present certificate) = Accepted certificate (digest_of certificate) about.epoch about.root
accepted_body about (absent bottom) = Absent about.epoch about.root

-- refused, or accepted
abbrev pub unless_refused : Result (Unit {0}) ℕ → Confirmation → Judgement
unless_refused (Ok _) c = accepted_body c.about c.body
unless_refused (Err number) c = Refused number

-- the judgement of what was read, where it is a confirmation; what is none fails the first check
abbrev pub judgement_on : Asked → Option Confirmation → Judgement
judgement_on asked None = Refused 1
judgement_on asked (Some c) = unless_refused (refusal_of asked c) c

-- the judgement on bytes
unfoldable pub judgement : Asked → List ℕ → Judgement
judgement asked bytes = judgement_on asked (result_ok (whole confirmation_at bytes))
