-- Confirmations: what one says, the fields of its text in their order with the place of the first that
-- fails, and the one text of each.
use Rattle.std.specs.Prelude.{◌≡◌, ℕ, ◌+◌, ◌*◌, ◌/◌, ◌^◌, ◌<◌, ◌≤◌, ◌==◌, nat_lt, nat_le, Bool, true, false, if◌then◌else◌, List, ◌++◌, length, take, Option, Some, None, Ok, Err}
use Rattle.std.specs.Int.{w8, w16, w64}
use Rattle.std.specs.Option.{option_map}
use Rattle.ar_base.specs.Bytes.{IsDigest}
use Rattle.ar_base.specs.Ranges.{is_from_to}
use Rattle.ar_base.specs.Chaining.{◌>>=◌}
use Rattle.ar_bytes.specs.Reading.{Cursor, Reading, behind, counted_at, mapped_at, number_at, such_that}
use Rattle.ar_bytes.specs.RoundTrip.{number_text, counted_text}
use Rattle.ar_bytes.specs.Tested.{byte_at, flag_at, flag_text}
use Rattle.ar_names.specs.Names.{IsName}
use Rattle.ar_statement.specs.Claims.{name_text}
use Rattle.ar_statement.specs.Fields.{IsEpoch, digest_at, epoch_at, name_at}
use Rattle.ar_cert.specs.Certificate.{Certificate, IsCertificate, certificate_text, counted_certificate_at, digest_of}
use Rattle.hash_tree.specs.declared.bottom.Bottom.{Bottom}
use Rattle.hash_tree.specs.declared.bottom.Bottom.TheVariants.{Empty, Other}

-- ---- what a confirmation says

-- what it is about: a name at the end of an epoch, in the table with this root; asked by a client
pub record Subject : Type 0 where
  pub client : ℕ
  pub epoch : ℕ
  pub name : List ℕ
  pub root : List ℕ

-- what the table has for the name
pub data Body : Type 0 where
  -- this certificate
  present : (certificate : Certificate) → Body
  -- none: this stands at the foot of the name's path
  absent : (bottom : Bottom) → Body

-- the number of a party, and its signature
pub record Signed : Type 0 where
  pub number : ℕ
  pub signature : List ℕ

-- The steps lead from the name's entry, or from what stands at the foot of its path, up to the root, the
-- deepest first, 32 bytes for each; a log and two authorities sign.
pub record Confirmation : Type 0 where
  pub about : Subject
  pub body : Body
  pub steps : List ℕ
  pub log : Signed
  pub first : Signed
  pub second : Signed

-- the certificate of a name that has one
abbrev pub certificate_in : Body → Option Certificate
certificate_in (present certificate) = Some certificate
certificate_in (absent bottom) = None

-- its digest
abbrev pub digest_in : Body → Option (List ℕ)
digest_in body = option_map digest_of (certificate_in body)

-- the foot of the path of a name that has none
abbrev pub bottom_in : Body → Option Bottom
bottom_in (present certificate) = None
bottom_in (absent bottom) = Some bottom

-- ---- the fields of its text

-- the form: 1 for presence, 2 for absence; whether the name is present
unfoldable pub form_at : Cursor → Reading Bool
form_at = mapped_at (λ form. form == 1) (such_that (is_from_to 1 2) (number_at w8))

-- what the confirmation is about
unfoldable pub subject_at : Cursor → Reading Subject
subject_at at = do
  client ← number_at w16 at
  epoch ← epoch_at client.1
  name ← name_at epoch.1
  root ← digest_at name.1
  Ok (record { client = client.0; epoch = epoch.0; name = name.0; root = root.0 }, root.1)

-- the key and the value of an entry
unfoldable pub entry_at : Cursor → Reading Bottom
entry_at at = do
  key ← digest_at at
  value ← digest_at key.1
  Ok (Other key.0 value.0, value.1)

-- a flag, and for 1 an entry of another key
unfoldable pub bottom_at : Cursor → Reading Bottom
bottom_at at = do
  other ← flag_at at
  if other.0 then entry_at other.1 else Ok (Empty, other.1)

-- what the table has for a name: a counted certificate where the name is present
unfoldable pub body_at : Bool → Cursor → Reading Body
body_at is_present at = if is_present then mapped_at present counted_certificate_at at else mapped_at absent bottom_at at

-- so many steps of 32 bytes; the first for which too few bytes are left fails
unfoldable pub steps_at : ℕ → Cursor → Reading (List ℕ)
steps_at count at =
    if nat_lt (length at.ahead) (32 * count) then Err (at.place + 32 * (length at.ahead / 32))
    else Ok (take (32 * count) at.ahead, behind (32 * count) at)

-- at most 256 steps behind their count
unfoldable pub path_at : Cursor → Reading (List ℕ)
path_at at = do
  count ← such_that (λ n. nat_le n 256) (number_at w16) at
  steps_at count.0 count.1

-- a party's number, and its signature behind the number of its bytes
unfoldable pub signed_at : Cursor → Reading Signed
signed_at at = do
  number ← number_at w16 at
  signature ← counted_at number.1
  Ok (record { number = number.0; signature = signature.0 }, signature.1)

-- the log, and the two authorities
unfoldable pub signers_at : Cursor → Reading (Signed × Signed × Signed)
signers_at at = do
  log ← signed_at at
  first ← signed_at log.1
  second ← signed_at first.1
  Ok ((log.0, first.0, second.0), second.1)

-- the fields of a confirmation behind its kind
unfoldable pub confirmation_fields_at : Cursor → Reading Confirmation
confirmation_fields_at at = do
  is_present ← form_at at
  about ← subject_at is_present.1
  body ← body_at is_present.0 about.1
  steps ← path_at body.1
  signers ← signers_at steps.1
  Ok (record { about = about.0; body = body.0; steps = steps.0; log = signers.0.0; first = signers.0.1; second = signers.0.2 }, signers.1)

-- the kind 12, and the fields
unfoldable pub confirmation_at : Cursor → Reading Confirmation
confirmation_at at = do
  kind ← byte_at 12 at
  confirmation_fields_at kind.1

-- ---- its text

abbrev pub is_present : Body → Bool
is_present (present certificate) = true
is_present (absent bottom) = false

-- the form
abbrev pub form_text : Bool → List ℕ
form_text is_present = number_text w8 (if is_present then 1 else 2)

unfoldable pub subject_text : Subject → List ℕ
subject_text s = number_text w16 s.client ++ (number_text w64 s.epoch ++ (name_text s.name ++ s.root))

unfoldable pub bottom_text : Bottom → List ℕ
bottom_text Empty = flag_text false
bottom_text (Other key value) = flag_text true ++ (key ++ value)

unfoldable pub body_text : Body → List ℕ
body_text (present certificate) = counted_text (certificate_text certificate)
body_text (absent bottom) = bottom_text bottom

-- the steps behind their count
abbrev pub path_text : List ℕ → List ℕ
path_text steps = number_text w16 (length steps / 32) ++ steps

abbrev pub signed_text : Signed → List ℕ
signed_text s = number_text w16 s.number ++ counted_text s.signature

-- the log, and the two authorities
abbrev pub signers_text : Signed × Signed × Signed → List ℕ
signers_text s = signed_text s.0 ++ (signed_text s.1 ++ signed_text s.2)

-- what stands behind the kind
unfoldable pub confirmation_fields_text : Confirmation → List ℕ
confirmation_fields_text c =
    form_text (is_present c.body) ++ (subject_text c.about ++ (body_text c.body ++ (path_text c.steps ++ signers_text (c.log, c.first, c.second))))

-- the one text of a confirmation
unfoldable pub confirmation_text : Confirmation → List ℕ
confirmation_text c = number_text w8 12 ++ confirmation_fields_text c

-- ---- ranges

pub record IsSubject (s : Subject) : Type 0 where
  pub client : s.client < 2 ^ 16
  pub epoch : IsEpoch s.epoch
  pub name : IsName s.name
  pub root : IsDigest s.root

abbrev pub IsBottom : Bottom → Type 0
IsBottom Empty = Unit {0}
IsBottom (Other key value) = IsDigest key × IsDigest value

abbrev pub IsBody : Body → Type 0
IsBody (present certificate) = IsCertificate certificate
IsBody (absent bottom) = IsBottom bottom

-- whole steps, at most 256
abbrev pub AreSteps : List ℕ → Type 0
AreSteps steps = (count : ℕ) × ((count ≤ 256) × (length steps ≡ 32 * count))

abbrev pub IsSigned : Signed → Type 0
IsSigned s = (s.number < 2 ^ 16) × (length s.signature < 2 ^ 16)

-- a confirmation that has a text
pub record IsConfirmation (c : Confirmation) : Type 0 where
  pub about : IsSubject c.about
  pub body : IsBody c.body
  pub steps : AreSteps c.steps
  pub log : IsSigned c.log
  pub first : IsSigned c.first
  pub second : IsSigned c.second
