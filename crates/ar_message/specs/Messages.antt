-- Messages: the fields of each kind in their order with the place of the first that fails, and the one text of
-- each message.
use Rattle.std.specs.Prelude.{ℕ, ◌^◌, ◌<◌, ◌==◌, nat_lt, Bool, IsTrue, if◌then◌else◌, List, ◌++◌, length, IfSome, Result, Ok, Err}
use Rattle.std.specs.Int.{w8, w16, w32, w64}
use Rattle.ar_base.specs.Bytes.{IsDigest}
use Rattle.ar_base.specs.Ranges.{is_from_to}
use Rattle.ar_base.specs.Chaining.{◌>>=◌}
use Rattle.ar_bytes.specs.Reading.{Cursor, Reading, counted_at, mapped_at, number_at, such_that, whole}
use Rattle.ar_bytes.specs.RoundTrip.{number_text, counted_text}
use Rattle.ar_bytes.specs.Joined.{pair_at, optional_at, optional_text}
use Rattle.ar_names.specs.Names.{IsName}
use Rattle.ar_statement.specs.declared.party.Party.{Party}
use Rattle.ar_statement.specs.Claims.{name_text, party, party_text, value_text, value_with}
use Rattle.ar_statement.specs.Fields.{IsEpoch, digest_at, epoch_at, name_at}
use Rattle.ar_statement.specs.Ranges.{IsValue, is_witness}
use Rattle.ar_statement.specs.Texts.{role_at, value_at}
use Rattle.lms_tree.specs.PublicKey.{HasWidths, key_text}
use Rattle.ar_cert.specs.Certificate.{IsCertificate, certificate_text, counted_certificate_at, certified_key_at}
use Rattle.ar_cert.specs.Changes.{IsChange, IsSignature, change_at, change_text}
use Rattle.ar_message.specs.Confirmation as confirmation
use Rattle.ar_message.specs.Confirmation.{Subject, Signed, form_at, subject_at, body_at, path_at, signed_at, confirmation_fields_at, is_present, form_text, subject_text, body_text, path_text, signed_text, confirmation_fields_text, IsConfirmation}
use Rattle.ar_message.specs.Lists.{changes_at, changes_text, AreChanges, votes_at, votes_text, AreVotes, statuses_at, statuses_text, AreLogStatuses}
use Rattle.ar_message.specs.declared.message.Body.{Body}
use Rattle.ar_message.specs.declared.message.Body.TheVariants.{Present, Absent}
use Rattle.ar_message.specs.declared.message.Confirming.{Confirming}
use Rattle.ar_message.specs.declared.message.Message.{Message}
use Rattle.ar_message.specs.declared.message.Message.TheVariants.{EndorseAsk, Endorsed, Submit, Propose, Ballot, StatusNote, Decision, SkipNote, ConfirmAsk, LogConfirmed, HalfConfirmed, Confirmation, RollNote}

-- ---- what the table has for a name, with its path

-- from what stands in front of the path, and the path
abbrev pub body_with : confirmation.Body → List ℕ → Body
body_with (confirmation.present certificate) path = Present certificate path
body_with (confirmation.absent bottom) path = Absent bottom path

-- what stands in front of the path
abbrev pub shown_in : Body → confirmation.Body
shown_in (Present certificate path) = confirmation.present certificate
shown_in (Absent bottom path) = confirmation.absent bottom

abbrev pub path_in : Body → List ℕ
path_in (Present certificate path) = path
path_in (Absent bottom path) = path

-- ---- the fields of each kind behind its number

unfoldable pub endorse_ask_at : Cursor → Reading Message
endorse_ask_at = mapped_at (λ f. EndorseAsk f.0 f.1) (pair_at (number_at w16) counted_certificate_at)

unfoldable pub endorsed_at : Cursor → Reading Message
endorsed_at =
    mapped_at (λ f. Endorsed f.0 f.1.0 f.1.1.0 f.1.1.1)
    (pair_at (number_at w16) (pair_at (number_at w16) (pair_at digest_at counted_at)))

unfoldable pub submit_at : Cursor → Reading Message
submit_at = mapped_at Submit change_at

unfoldable pub propose_at : Cursor → Reading Message
propose_at =
    mapped_at (λ f. Propose f.0 f.1.0 f.1.1.0.base f.1.1.0.root f.1.1.1.0 f.1.1.1.1)
    (pair_at (number_at w16) (pair_at epoch_at (pair_at value_at (pair_at changes_at counted_at))))

unfoldable pub ballot_at : Cursor → Reading Message
ballot_at =
    mapped_at (λ f. Ballot f.0 f.1.0 f.1.1.0.base f.1.1.0.root f.1.1.1)
    (pair_at (number_at w16) (pair_at epoch_at (pair_at value_at counted_at)))

unfoldable pub status_note_at : Cursor → Reading Message
status_note_at =
    mapped_at (λ f. StatusNote f.0 f.1.0 f.1.1.0 f.1.1.1)
    (pair_at (number_at w16) (pair_at epoch_at (pair_at (optional_at value_at) counted_at)))

unfoldable pub decision_at : Cursor → Reading Message
decision_at =
    mapped_at (λ f. Decision f.0 f.1.0.base f.1.0.root f.1.1.0 f.1.1.1)
    (pair_at epoch_at (pair_at value_at (pair_at changes_at votes_at)))

unfoldable pub skip_note_at : Cursor → Reading Message
skip_note_at = mapped_at (λ f. SkipNote f.0 f.1) (pair_at epoch_at statuses_at)

unfoldable pub confirm_ask_at : Cursor → Reading Message
confirm_ask_at =
    mapped_at (λ f. ConfirmAsk f.0 f.1.0 f.1.1.0 f.1.1.1)
    (pair_at (number_at w16) (pair_at name_at (pair_at (number_at w16) (number_at w16))))

-- what two kinds share: the form decides what the body is
unfoldable pub confirming_at : Cursor → Reading Confirming
confirming_at at = do
  is_present ← form_at at
  about ← subject_at is_present.1
  base ← digest_at about.1
  shown ← body_at is_present.0 base.1
  path ← path_at shown.1
  votes ← votes_at path.1
  log ← signed_at votes.1
  first ← number_at w16 log.1
  second ← number_at w16 first.1
  Ok (record { client = about.0.client; epoch = about.0.epoch; name = about.0.name; root = about.0.root; base = base.0; body = body_with shown.0 path.0; votes = votes.0; log = log.0.number; signature = log.0.signature; first = first.0; second = second.0 }, second.1)

unfoldable pub log_confirmed_at : Cursor → Reading Message
log_confirmed_at = mapped_at LogConfirmed confirming_at

unfoldable pub half_confirmed_at : Cursor → Reading Message
half_confirmed_at = mapped_at (λ f. HalfConfirmed f.0 f.1) (pair_at confirming_at counted_at)

-- a confirmation as a message
abbrev pub with_confirmation : confirmation.Confirmation → Message
with_confirmation c =
    Confirmation c.about.client c.about.epoch c.about.name c.about.root (body_with c.body c.steps) c.log.number c.log.signature c.first.number c.first.signature c.second.number c.second.signature

unfoldable pub whole_confirmation_at : Cursor → Reading Message
whole_confirmation_at = mapped_at with_confirmation confirmation_fields_at

-- a log or an authority
unfoldable pub witness_at : Cursor → Reading Party
witness_at = mapped_at (λ f. party f.0 f.1) (pair_at (such_that is_witness role_at) (number_at w16))

unfoldable pub roll_note_at : Cursor → Reading Message
roll_note_at =
    mapped_at (λ f. RollNote f.0 f.1.0 f.1.1.0 f.1.1.1)
    (pair_at witness_at (pair_at (number_at w32) (pair_at certified_key_at counted_at)))

-- ---- a message

-- the numbers of the kinds
abbrev pub is_kind : ℕ → Bool
is_kind n = is_from_to 1 13 n

-- the fields of the kind with this number
unfoldable pub fields_at : ℕ → Cursor → Reading Message
fields_at kind at =
    if kind == 1 then endorse_ask_at at else
    if kind == 2 then endorsed_at at else
    if kind == 3 then submit_at at else
    if kind == 4 then propose_at at else
    if kind == 5 then ballot_at at else
    if kind == 6 then status_note_at at else
    if kind == 7 then decision_at at else
    if kind == 8 then skip_note_at at else
    if kind == 9 then confirm_ask_at at else
    if kind == 10 then log_confirmed_at at else
    if kind == 11 then half_confirmed_at at else
    if kind == 12 then whole_confirmation_at at else
    roll_note_at at

-- the number of its kind, and its fields
unfoldable pub message_at : Cursor → Reading Message
message_at at = do
  kind ← such_that is_kind (number_at w8) at
  fields_at kind.0 kind.1

-- the most bytes of a message that is read
abbrev pub longest : ℕ
longest = 4194304

-- a whole message; of one that is too long nothing is looked at, and it fails behind the most bytes
unfoldable pub message_in : List ℕ → Result Message ℕ
message_in bytes = if nat_lt longest (length bytes) then Err longest else whole message_at bytes

-- ---- its text

-- the confirmation that a log makes, without the base and the votes
abbrev pub about_in : Confirming → Subject
about_in part = record { client = part.client; epoch = part.epoch; name = part.name; root = part.root }

abbrev pub signed_in : ℕ → List ℕ → Signed
signed_in number signature = record { number = number; signature = signature }

-- what is confirmed
abbrev pub confirmed_text : Confirming → List ℕ
confirmed_text part =
    form_text (is_present (shown_in part.body)) ++ (subject_text (about_in part) ++ (part.base
    ++ (body_text (shown_in part.body) ++ path_text (path_in part.body))))

-- what vouches for it, and who is asked to confirm it too
abbrev pub vouched_text : Confirming → List ℕ
vouched_text part =
    votes_text part.votes ++ (signed_text (signed_in part.log part.signature) ++ (number_text w16 part.first ++ number_text w16 part.second))

-- what two kinds share
unfoldable pub confirming_text : Confirming → List ℕ
confirming_text part = confirmed_text part ++ vouched_text part

-- a confirmation as its definition has it
abbrev pub confirmation_in : ℕ → ℕ → List ℕ → List ℕ → Body → ℕ → List ℕ → ℕ → List ℕ → ℕ → List ℕ → confirmation.Confirmation
confirmation_in client epoch name root body log log_signature first first_signature second second_signature = record {
  about = record { client = client; epoch = epoch; name = name; root = root };
  body = shown_in body;
  steps = path_in body;
  log = signed_in log log_signature;
  first = signed_in first first_signature;
  second = signed_in second second_signature;
}

-- the number of a message's kind
abbrev pub kind_of : Message → ℕ
kind_of (EndorseAsk owner cert) = 1
kind_of (Endorsed owner authority certificate signature) = 2
kind_of (Submit change) = 3
kind_of (Propose log epoch base root changes signature) = 4
kind_of (Ballot log epoch base root signature) = 5
kind_of (StatusNote log epoch value signature) = 6
kind_of (Decision epoch base root changes votes) = 7
kind_of (SkipNote epoch statuses) = 8
kind_of (ConfirmAsk client name first second) = 9
kind_of (LogConfirmed part) = 10
kind_of (HalfConfirmed part first_signature) = 11
kind_of (Confirmation client epoch name root body log log_signature first first_signature second second_signature) = 12
kind_of (RollNote party generation key signature) = 13

-- what stands behind the number of the kind
unfoldable pub fields_text : Message → List ℕ
fields_text (EndorseAsk owner cert) = number_text w16 owner ++ counted_text (certificate_text cert)
fields_text (Endorsed owner authority certificate signature) =
    number_text w16 owner ++ (number_text w16 authority ++ (certificate ++ counted_text signature))
fields_text (Submit change) = change_text change
fields_text (Propose log epoch base root changes signature) =
    number_text w16 log ++ (number_text w64 epoch ++ (value_text (value_with base root) ++ (changes_text changes ++ counted_text signature)))
fields_text (Ballot log epoch base root signature) =
    number_text w16 log ++ (number_text w64 epoch ++ (value_text (value_with base root) ++ counted_text signature))
fields_text (StatusNote log epoch value signature) =
    number_text w16 log ++ (number_text w64 epoch ++ (optional_text value_text value ++ counted_text signature))
fields_text (Decision epoch base root changes votes) =
    number_text w64 epoch ++ (value_text (value_with base root) ++ (changes_text changes ++ votes_text votes))
fields_text (SkipNote epoch statuses) = number_text w64 epoch ++ statuses_text statuses
fields_text (ConfirmAsk client name first second) =
    number_text w16 client ++ (name_text name ++ (number_text w16 first ++ number_text w16 second))
fields_text (LogConfirmed part) = confirming_text part
fields_text (HalfConfirmed part first_signature) = confirming_text part ++ counted_text first_signature
fields_text (Confirmation client epoch name root body log log_signature first first_signature second second_signature) =
    confirmation_fields_text (confirmation_in client epoch name root body log log_signature first first_signature second second_signature)
fields_text (RollNote party generation key signature) =
    party_text party ++ (number_text w32 generation ++ (key_text key ++ counted_text signature))

-- the one text of a message
unfoldable pub message_text : Message → List ℕ
message_text m = number_text w8 (kind_of m) ++ fields_text m

-- ---- ranges

-- what two kinds share has a text
pub record IsConfirming (part : Confirming) : Type 0 where
  pub about : confirmation.IsSubject (about_in part)
  pub base : IsDigest part.base
  pub shown : confirmation.IsBody (shown_in part.body)
  pub path : confirmation.AreSteps (path_in part.body)
  pub votes : AreVotes part.votes
  pub log : confirmation.IsSigned (signed_in part.log part.signature)
  pub first : part.first < 2 ^ 16
  pub second : part.second < 2 ^ 16

-- a log or an authority, whose number has two bytes
abbrev pub IsWitness : Party → Type 0
IsWitness party = IsTrue (is_witness party.role) × (party.number < 2 ^ 16)

-- a message that has a text: each field is in its range
abbrev pub IsMessage : Message → Type 0
IsMessage (EndorseAsk owner cert) = (owner < 2 ^ 16) × IsCertificate cert
IsMessage (Endorsed owner authority certificate signature) =
    (owner < 2 ^ 16) × ((authority < 2 ^ 16) × (IsDigest certificate × IsSignature signature))
IsMessage (Submit change) = IsChange change
IsMessage (Propose log epoch base root changes signature) =
    (log < 2 ^ 16) × (IsEpoch epoch × (IsValue (value_with base root) × (AreChanges changes × IsSignature signature)))
IsMessage (Ballot log epoch base root signature) =
    (log < 2 ^ 16) × (IsEpoch epoch × (IsValue (value_with base root) × IsSignature signature))
IsMessage (StatusNote log epoch value signature) =
    (log < 2 ^ 16) × (IsEpoch epoch × (IfSome value IsValue × IsSignature signature))
IsMessage (Decision epoch base root changes votes) =
    IsEpoch epoch × (IsValue (value_with base root) × (AreChanges changes × AreVotes votes))
IsMessage (SkipNote epoch statuses) = IsEpoch epoch × AreLogStatuses statuses
IsMessage (ConfirmAsk client name first second) =
    (client < 2 ^ 16) × (IsName name × ((first < 2 ^ 16) × (second < 2 ^ 16)))
IsMessage (LogConfirmed part) = IsConfirming part
IsMessage (HalfConfirmed part first_signature) = IsConfirming part × IsSignature first_signature
IsMessage (Confirmation client epoch name root body log log_signature first first_signature second second_signature) =
    IsConfirmation (confirmation_in client epoch name root body log log_signature first first_signature second second_signature)
IsMessage (RollNote party generation key signature) =
    IsWitness party × ((generation < 2 ^ 32) × (HasWidths key × IsSignature signature))
