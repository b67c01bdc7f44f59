-- What a judgement means: the checks as facts about a confirmation, and the first that does not hold.
use Rattle.std.specs.Prelude.{◌≡◌, ◌≢◌, ℕ, ◌-◌, ◌<◌, ◌≤◌, ◌⊎◌, false, List, [], ◌∷◌, length, Ok, IsErr}
use Rattle.tree_proof.specs.Membership.{OnBytes, OffBytes}
use Rattle.hash_tree.specs.declared.bottom.Bottom.{Bottom}
use Rattle.ar_base.specs.FirstFailing.{AllHold, FailsFirst}
use Rattle.ar_bytes.specs.Reading.{whole}
use Rattle.ar_names.specs.Names.{name_digest_of}
use Rattle.ar_statement.specs.Claims.{authority_party, log_party, text_of}
use Rattle.ar_statement.specs.declared.party.Party.{Party}
use Rattle.ar_cert.specs.Certificate.{Certificate, certificate_value, digest_of}
use Rattle.ar_message.specs.Confirmation.{Subject, Body, present, absent, Confirmation, confirmation_at}
use Rattle.party_keys.specs.Directory.{Directory}
use Rattle.party_keys.specs.Learning.{Announced, after_all}
use Rattle.party_keys.specs.Signatures.{IsVerified}
use Rattle.client_rule.specs.Rule.{Asked, claim_on}

-- the same, asked in another epoch
abbrev pub earlier : Asked → ℕ → Asked
earlier asked epoch = record asked { epoch = epoch }

-- the same, asked with a directory that has learnt these
abbrev pub learnt : Asked → List Announced → Asked
learnt asked announced = record asked { keys = after_all asked.keys announced }

-- the checks of a confirmation
pub data Check : Type 0 where
  same_name : Check
  parties : Check
  log_signature : Check
  first_signature : Check
  second_signature : Check
  path : Check
  not_later : Check
  young : Check
  live : Check
  current : Check

-- their numbers
abbrev pub number_of : Check → ℕ
number_of same_name = 2
number_of parties = 3
number_of log_signature = 4
number_of first_signature = 5
number_of second_signature = 6
number_of path = 7
number_of not_later = 8
number_of young = 9
number_of live = 10
number_of current = 11

-- all of them, in order of number
abbrev pub all_checks : List Check
all_checks =
    same_name ∷ (parties ∷ (log_signature ∷ (first_signature ∷ (second_signature
    ∷ (path ∷ (not_later ∷ (young ∷ (live ∷ (current ∷ [])))))))))

-- ---- the facts

-- the directory has the log and both authorities, and the authorities are two
pub record HasSigners (keys : Directory) (c : Confirmation) : Type 0 where
  pub log : c.log.number < length keys.logs
  pub first : c.first.number < length keys.authorities
  pub second : c.second.number < length keys.authorities
  pub two : c.first.number ≢ c.second.number

-- the party's signature of its own statement is verified under the directory
abbrev pub SignsConfirmation : Directory → Subject → Body → Party → List ℕ → Type 0
SignsConfirmation keys about body signer signature = IsVerified keys signer (text_of (claim_on about body signer)) signature

-- The table with the root has this for the name: the certificate is the name's, and the steps show it under
-- the key of the name; or they show that this key has no value.
abbrev pub IsShown : Subject → Body → List ℕ → Type 0
IsShown about (present certificate) steps =
    (certificate.name ≡ about.name)
    × OnBytes (name_digest_of about.name) (certificate_value certificate) steps about.root
IsShown about (absent bottom) steps = OffBytes (name_digest_of about.name) bottom steps about.root

-- so many epochs after its own, it is not older than the client and the certificate allow
abbrev pub IsYoung : ℕ → ℕ → Body → Type 0
IsYoung after age (present certificate) = (after ≤ age) × (after ≤ certificate.policy.max_age)
IsYoung after age (absent bottom) = after ≤ age

-- the certificate, if there is one, is not revoked
abbrev pub IsLive : Body → Type 0
IsLive (present certificate) = certificate.revoked ≡ false
IsLive (absent bottom) = Unit {0}

-- and has not expired
abbrev pub IsCurrent : ℕ → Body → Type 0
IsCurrent epoch (present certificate) = epoch ≤ certificate.policy.until
IsCurrent epoch (absent bottom) = Unit {0}

-- What is shown of an epoch is accepted in time: it is of no later epoch than is asked for, not older than the client and the
-- certificate allow, and neither revoked nor expired.
pub record IsTimely (asked : Asked) (epoch : ℕ) (body : Body) : Type 0 where
  pub not_later : epoch ≤ asked.epoch
  pub young : IsYoung (asked.epoch - epoch) asked.age body
  pub live : IsLive body
  pub current : IsCurrent asked.epoch body

-- what each check asks of a confirmation
abbrev pub Holds : Asked → Confirmation → Check → Type 0
Holds asked c same_name = c.about.name ≡ asked.name
Holds asked c parties = HasSigners asked.keys c
Holds asked c log_signature = SignsConfirmation asked.keys c.about c.body (log_party c.log.number) c.log.signature
Holds asked c first_signature = SignsConfirmation asked.keys c.about c.body (authority_party c.first.number) c.first.signature
Holds asked c second_signature = SignsConfirmation asked.keys c.about c.body (authority_party c.second.number) c.second.signature
Holds asked c path = IsShown c.about c.body c.steps
Holds asked c not_later = c.about.epoch ≤ asked.epoch
Holds asked c young = IsYoung (asked.epoch - c.about.epoch) asked.age c.body
Holds asked c live = IsLive c.body
Holds asked c current = IsCurrent asked.epoch c.body

-- ---- what follows from them

-- each check holds
abbrev pub HoldsAll : Asked → Confirmation → Type 0
HoldsAll asked c = AllHold (Holds asked c) all_checks

-- the first check that does not hold has this number, and all before it hold
abbrev pub HoldsUpTo : Asked → Confirmation → ℕ → Type 0
HoldsUpTo asked c k = FailsFirst number_of (Holds asked c) all_checks k

-- the bytes are a confirmation that passes all checks
pub record PassesChecks (asked : Asked) (bytes : List ℕ) (c : Confirmation) : Type 0 where
  pub is_read : whole confirmation_at bytes ≡ Ok c
  pub holds : HoldsAll asked c

-- the bytes are a confirmation that passes all checks, and says that the name has this certificate
pub record Accepts (asked : Asked) (bytes : List ℕ) (certificate : Certificate) (digest : List ℕ) (epoch : ℕ) (root : List ℕ) : Type 0 where
  pub confirmation : Confirmation
  pub passes : PassesChecks asked bytes confirmation
  pub body : confirmation.body ≡ present certificate
  pub digest_is : digest ≡ digest_of certificate
  pub epoch_is : epoch ≡ confirmation.about.epoch
  pub root_is : root ≡ confirmation.about.root

-- or that it has none
pub record AcceptsNone (asked : Asked) (bytes : List ℕ) (epoch : ℕ) (root : List ℕ) : Type 0 where
  pub confirmation : Confirmation
  pub passes : PassesChecks asked bytes confirmation
  pub bottom : (foot : Bottom) × (confirmation.body ≡ absent foot)
  pub epoch_is : epoch ≡ confirmation.about.epoch
  pub root_is : root ≡ confirmation.about.root

-- the bytes are no confirmation, which is check 1, or one of which check k is the first that does not hold
abbrev pub Refuses : Asked → List ℕ → ℕ → Type 0
Refuses asked bytes k =
    ((k ≡ 1) × IsErr (whole confirmation_at bytes))
    ⊎ ((c : Confirmation) × (whole confirmation_at bytes ≡ Ok c) × HoldsUpTo asked c k)
