-- Certificates: what one says, the fields of its text in their order with the place of the first that
-- fails, and the one text of each.
use Rattle.std.specs.Prelude.{ℕ, ◌^◌, ◌<◌, ◌≤◌, ◌==◌, Bool, if◌then◌else◌, List, [], ◌∷◌, ◌++◌, length, Option, Some, None, Ok, is_some, IfSome}
use Rattle.std.specs.Int.{w8, w16, w32, w64}
use Rattle.sha2.specs.Sha256.{sha256}
use Rattle.ar_base.specs.Bytes.{IsDigest}
use Rattle.ar_base.specs.Chaining.{◌>>=◌}
use Rattle.ar_base.specs.Ranges.{IsFromTo, is_from_to}
use Rattle.ar_bytes.specs.Reading.{Cursor, Reading, bytes_at, known_at, mapped_at, number_at, such_that, within}
use Rattle.ar_bytes.specs.RoundTrip.{number_text}
use Rattle.ar_bytes.specs.Tested.{byte_at, flag_at, flag_text}
use Rattle.ar_bytes.specs.Ascending.{numbers_at, AreNumbers}
use Rattle.ar_bytes.specs.Lists.{counted_list_at, counted_list_text}
use Rattle.ar_names.specs.Names.{IsName}
use Rattle.ar_statement.specs.Claims.{name_text}
use Rattle.ar_statement.specs.Fields.{digest_at, name_at}
use Rattle.lms_tree.specs.declared.public_key.LmsPublic.{LmsPublic}
use Rattle.lms_tree.specs.PublicKey.{HasWidths, key_text, key_of_text}
use Rattle.cert_policy.specs.Terms.{PolicyTerms}
use Rattle.hash_tree.specs.Strings.{value_digest}

-- ---- what a certificate says

-- the certificate of a domain
pub record Certificate : Type 0 where
  pub name : List ℕ
  pub serial : ℕ
  -- the digest of the certificate before it
  pub previous : List ℕ
  pub subject : LmsPublic
  pub policy : PolicyTerms
  pub revoked : Bool

-- ---- the fields of its text

-- an LMS public key that can be read
unfoldable pub certified_key_at : Cursor → Reading LmsPublic
certified_key_at = known_at key_of_text (bytes_at 56)

-- at most 16 numbers of authorities that ascend strictly, behind their count
abbrev pub trusted_at : Cursor → Reading (List ℕ)
trusted_at = counted_list_at 16 (λ count at. numbers_at count 0 at)

-- whether a policy has a wait: version 1 has none, version 2 has one
unfoldable pub version_at : Cursor → Reading Bool
version_at = mapped_at (λ version. version == 2) (such_that (is_from_to 1 2) (number_at w8))

-- how many epochs a recovery may wait
abbrev pub is_wait : ℕ → Bool
is_wait n = is_from_to 1 10000 n

-- the wait, where there is one
unfoldable pub wait_at : Bool → Cursor → Reading (Option ℕ)
wait_at waits at = if waits then mapped_at Some (such_that is_wait (number_at w16)) at else Ok (None, at)

-- the version, and the fields: in version 2 the wait is the last
unfoldable pub terms_at : Cursor → Reading PolicyTerms
terms_at at = do
  waits ← version_at at
  threshold ← number_at w8 waits.1
  keyed ← flag_at threshold.1
  max_age ← number_at w32 keyed.1
  until ← number_at w64 max_age.1
  trusted ← trusted_at until.1
  wait ← wait_at waits.0 trusted.1
  Ok (record { threshold = threshold.0; keyed = keyed.0; max_age = max_age.0; until = until.0; trusted = trusted.0; wait = wait.0 }, wait.1)

-- the tag 1, and the fields
unfoldable pub certificate_at : Cursor → Reading Certificate
certificate_at at = do
  tag ← byte_at 1 at
  name ← name_at tag.1
  serial ← number_at w64 name.1
  previous ← digest_at serial.1
  subject ← certified_key_at previous.1
  policy ← terms_at subject.1
  revoked ← flag_at policy.1
  Ok (record { name = name.0; serial = serial.0; previous = previous.0; subject = subject.0; policy = policy.0; revoked = revoked.0 }, revoked.1)

-- a certificate behind the number of its bytes
unfoldable pub counted_certificate_at : Cursor → Reading Certificate
counted_certificate_at at = do
  count ← number_at w16 at
  within count.0 certificate_at count.1

-- ---- its text

-- what stands before the terms: the tag 1, name, serial, previous digest and subject key
unfoldable pub front_text : List ℕ → ℕ → List ℕ → LmsPublic → List ℕ
front_text name serial previous subject =
    number_text w8 1 ++ (name_text name ++ (number_text w64 serial ++ (previous ++ key_text subject)))

-- the version: 2 where there is a wait, else 1
abbrev pub version_text : Bool → List ℕ
version_text waits = number_text w8 (if waits then 2 else 1)

-- the version, and the terms up to the list of authorities
unfoldable pub rules_text : Bool → ℕ → Bool → ℕ → ℕ → List ℕ
rules_text waits threshold keyed max_age until =
    version_text waits ++ (number_text w8 threshold ++ (flag_text keyed ++ (number_text w32 max_age ++ number_text w64 until)))

-- the authorities, behind their count
abbrev pub trusted_text : List ℕ → List ℕ
trusted_text = counted_list_text (number_text w16)

-- the wait, where there is one
unfoldable pub wait_text : Option ℕ → List ℕ
wait_text None = []
wait_text (Some n) = number_text w16 n

-- the terms
abbrev pub terms_text : PolicyTerms → List ℕ
terms_text p = rules_text (is_some p.wait) p.threshold p.keyed p.max_age p.until ++ (trusted_text p.trusted ++ wait_text p.wait)

-- the one text of a certificate
unfoldable pub certificate_text : Certificate → List ℕ
certificate_text c = front_text c.name c.serial c.previous c.subject ++ (terms_text c.policy ++ flag_text c.revoked)

-- the string that is hashed for its digest: the byte 0x10 and the text
abbrev pub certificate_string : Certificate → List ℕ
certificate_string c = 0x10 ∷ certificate_text c

-- its digest under SHA-256
unfoldable pub digest_of : Certificate → List ℕ
digest_of c = sha256 (certificate_string c)

-- its value in the integrity tree, as the newest certificate of its name
abbrev pub certificate_value : Certificate → List ℕ
certificate_value c = value_digest c.serial (digest_of c)

-- ---- ranges

-- 1 to 10,000 epochs
abbrev pub IsWait : ℕ → Type 0
IsWait n = IsFromTo 1 10000 n

-- terms that have a text: at most 16 authorities, whose numbers ascend strictly
pub record AreTerms (p : PolicyTerms) : Type 0 where
  pub threshold : p.threshold < 2 ^ 8
  pub max_age : p.max_age < 2 ^ 32
  pub until : p.until < 2 ^ 64
  pub few : length p.trusted ≤ 16
  pub ascending : AreNumbers p.trusted
  pub wait : IfSome p.wait IsWait

-- a certificate that has a text
pub record IsCertificate (c : Certificate) : Type 0 where
  pub name : IsName c.name
  pub serial : c.serial < 2 ^ 64
  pub previous : IsDigest c.previous
  pub subject : HasWidths c.subject
  pub policy : AreTerms c.policy
