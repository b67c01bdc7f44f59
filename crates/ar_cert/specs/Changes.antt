-- Changes: a certificate with what vouches for it, the fields of its text in their order with the place of
-- the first that fails, and the one text of each.
use Rattle.std.specs.Prelude.{◌≡◌, ℕ, ◌^◌, ◌<◌, ◌≤◌, ◌==◌, if◌then◌else◌, List, ◌++◌, length, Option, Some, None, Ok, IfSome, IsNone}
use Rattle.std.specs.List.{flat_map}
use Rattle.std.specs.Int.{w8, w16}
use Rattle.ar_base.specs.Chaining.{◌>>=◌}
use Rattle.ar_bytes.specs.Reading.{Cursor, Reading, counted_at}
use Rattle.ar_bytes.specs.RoundTrip.{number_text, counted_text}
use Rattle.ar_bytes.specs.Tested.{count_at}
use Rattle.ar_bytes.specs.Ascending.{ascending_at, number_from, Ascend}
use Rattle.ar_bytes.specs.Lists.{counted_list_at}
use Rattle.ar_cert.specs.Certificate.{Certificate, IsCertificate, certificate_text, counted_certificate_at}

-- an authority's signature of the certificate's endorsement
pub record Endorsement : Type 0 where
  pub authority : ℕ
  pub signature : List ℕ

-- A certificate, the endorsements that vouch for it, and the signature by which the key before it agrees;
-- or, with a certificate that is to wait, the signature by which that key objects.
pub record Change : Type 0 where
  pub cert : Certificate
  pub endorsements : List Endorsement
  pub handover : Option (List ℕ)
  pub objection : Option (List ℕ)

-- ---- the fields of its text

-- an endorsement by an authority whose number is not below `least`
unfoldable pub endorsement_from : ℕ → Cursor → Reading Endorsement
endorsement_from least at = do
  authority ← number_from least at
  signature ← counted_at authority.1
  Ok (record { authority = authority.0; signature = signature.0 }, signature.1)

-- so many endorsements by authorities whose numbers ascend strictly, and are not below `least`
abbrev pub endorsements_at : ℕ → ℕ → Cursor → Reading (List Endorsement)
endorsements_at = ascending_at (λ v. v.authority) endorsement_from

-- at most 8 endorsements behind their count
abbrev pub counted_endorsements_at : Cursor → Reading (List Endorsement)
counted_endorsements_at = counted_list_at 8 (λ count at. endorsements_at count 0 at)

-- the signature of the key before, as a handover and as an objection: there is neither, or one of them
abbrev pub Consent : Type 0
Consent = Option (List ℕ) × Option (List ℕ)

-- the greatest flag: no endorsement goes with an objection
abbrev pub most_flag : ℕ → ℕ
most_flag count = if count == 0 then 2 else 1

-- what the flag 1 or 2 says of the signature behind it
abbrev pub consent_by : ℕ → List ℕ → Consent
consent_by flag signature = if flag == 1 then (Some signature, None) else (None, Some signature)

-- behind so many endorsements a flag: 0, or 1 and a handover, or 2 and an objection
unfoldable pub consent_at : ℕ → Cursor → Reading Consent
consent_at count at = do
  flag ← count_at (most_flag count) at
  if flag.0 == 0 then Ok ((None, None), flag.1) else (counted_at flag.1 >>= λ signature. Ok (consent_by flag.0 signature.0, signature.1))

-- a counted certificate, the endorsements, and the handover or objection
unfoldable pub change_at : Cursor → Reading Change
change_at at = do
  cert ← counted_certificate_at at
  endorsements ← counted_endorsements_at cert.1
  consent ← consent_at (length endorsements.0) endorsements.1
  Ok (record { cert = cert.0; endorsements = endorsements.0; handover = consent.0.0; objection = consent.0.1 }, consent.1)

-- ---- its text

abbrev pub endorsement_text : Endorsement → List ℕ
endorsement_text v = number_text w16 v.authority ++ counted_text v.signature

-- the flag, and the signature that it tells of
unfoldable pub consent_text : Option (List ℕ) → Option (List ℕ) → List ℕ
consent_text None None = number_text w8 0
consent_text (Some signature) objection = number_text w8 1 ++ counted_text signature
consent_text None (Some signature) = number_text w8 2 ++ counted_text signature

-- the one text of a change
unfoldable pub change_text : Change → List ℕ
change_text r =
    counted_text (certificate_text r.cert) ++ (number_text w8 (length r.endorsements)
    ++ (flat_map endorsement_text r.endorsements ++ consent_text r.handover r.objection))

-- ---- ranges

-- bytes whose number fits two bytes
abbrev pub IsSignature : List ℕ → Type 0
IsSignature signature = length signature < 2 ^ 16

-- an endorsement that has a text
abbrev pub IsEndorsement : Endorsement → Type 0
IsEndorsement v = (v.authority < 2 ^ 16) × IsSignature v.signature

-- endorsements that have a text: at most 8, by authorities whose numbers ascend strictly
abbrev pub AreEndorsements : List Endorsement → Type 0
AreEndorsements endorsements = (length endorsements ≤ 8) × Ascend (λ v. v.authority) IsEndorsement 0 endorsements

-- nothing vouches for the certificate, and the key before does not agree
abbrev pub StandsAlone : List Endorsement → Option (List ℕ) → Type 0
StandsAlone endorsements handover = (length endorsements ≡ 0) × IsNone handover

-- a change that has a text: with an objection there is no endorsement and no handover
pub record IsChange (r : Change) : Type 0 where
  pub cert : IsCertificate r.cert
  pub endorsements : AreEndorsements r.endorsements
  pub handover : IfSome r.handover IsSignature
  pub objection : IfSome r.objection IsSignature
  pub alone : IfSome r.objection (λ _. StandsAlone r.endorsements r.handover)
