-- The rows of an owner: what it makes of a message or an order, as the reply with the owner behind it, or as the first
-- refusal of an ordered list of checks.
use Rattle.std.specs.Prelude.{ℕ, ◌==◌, List, [], ◌∷◌, map, slice_get, option_and_then, None, Result, Ok, Err}
use Rattle.std.specs.Option.{ok_or}
use Rattle.ar_base.specs.Chaining.{◌>>=◌, need}
use Rattle.ar_base.specs.Gives.{StepsUnless, with_error}
use Rattle.ar_cert.specs.Certificate.{Certificate, digest_of}
use Rattle.ar_cert.specs.Changes.{Change}
use Rattle.ar_message.specs.Messages.{message_in, message_text}
use Rattle.ar_message.specs.Sending.{Letter}
use Rattle.ar_message.specs.declared.address.Address.{Address}
use Rattle.ar_message.specs.declared.address.Address.TheVariants.{Logs, One}
use Rattle.ar_message.specs.declared.message.Message.{Message}
use Rattle.ar_message.specs.declared.message.Message.TheVariants.{EndorseAsk, Endorsed, Submit, RollNote}
use Rattle.ar_message.specs.declared.sent.Sent.{Sent}
use Rattle.ar_statement.specs.Claims.{answer, authority_party, endorse, handover, object, text_of}
use Rattle.ar_statement.specs.declared.party.Party.{Party}
use Rattle.lms_tree.specs.KeyParts.{KeyParts}
use Rattle.party_keys.specs.Directory.{Directory}
use Rattle.party_keys.specs.Learning.{Announced, after_learning, learned}
use Rattle.party_keys.specs.Signatures.{verified}
use Rattle.party_keys.specs.declared.fault.LearnFault.{LearnFault}
use Rattle.party_keys.specs.declared.fault.LearnFault.TheVariants as learn_fault
use Rattle.party_keys.specs.declared.fault.VerifyFault.{VerifyFault}
use Rattle.party_keys.specs.declared.fault.VerifyFault.TheVariants as verify_fault
use Rattle.owner_core.specs.State.{Owner}
use Rattle.owner_core.specs.Drafts.{begun_draft, changed_draft, endorsed, handed_over, place_of_draft}
use Rattle.owner_core.specs.Objecting.{objection}
use Rattle.owner_core.specs.Signing.{signed_by_owner}
use Rattle.owner_core.specs.declared.refusal.OwnerRefusal.{OwnerRefusal}
use Rattle.owner_core.specs.declared.refusal.OwnerRefusal.TheVariants.{Form, NotForOwner, Unknown, BadSignature, NoDraft, OtherRoll, Memory}

-- what a row gives: a reply and the owner behind it, or a refusal
abbrev pub OwnerAnswer : Type 0 → Type 0
OwnerAnswer Reply = Result (Reply × Owner) OwnerRefusal

-- The call answered as its row says, and left the owner behind it. Or it answered the row's refusal, or want of
-- memory, and left the owner as it was.
abbrev pub Answers : {T V : Type 0} → (T → V) → Owner → Owner → Result T OwnerRefusal → OwnerAnswer V → Type 0
Answers view old new result row = StepsUnless Memory (λ me value. (view value, me)) result old new row

-- ---- what is sent

-- these messages; no epoch ends at an owner
abbrev pub sent : List Letter → Sent
sent letters = record { messages = letters; ended = None }

-- a message to a party, or to all logs
abbrev pub letter : Address → Message → Letter
letter to message = record { to = to; bytes = message_text message }

-- a change goes to all logs
abbrev pub submission : Change → Sent
submission change = sent (letter Logs (Submit change) ∷ [])

-- ---- begin

-- an owner that has begun and signed nothing
abbrev pub first_owner : ℕ → Directory → KeyParts → ℕ → Owner
first_owner number directory key leaves = record { number = number; directory = directory; key = key; book = record { texts = []; leaves = leaves; room = 0 }; drafts = [] }

-- the certificate is a draft, and each of these authorities is asked to endorse it
abbrev pub begin_row : Owner → Certificate → List ℕ → OwnerAnswer Sent
begin_row me cert asks =
    Ok (sent (map (λ authority. letter (One (authority_party authority)) (EndorseAsk me.number cert)) asks), record me { drafts = begun_draft me.drafts cert })

-- ---- step

-- why a signature is refused, or nothing
abbrev pub verified_as : Party → Result (Unit {0}) VerifyFault → Result (Unit {0}) OwnerRefusal
verified_as signer (Ok u) = Ok tt
verified_as signer (Err (verify_fault.Unknown party)) = Err (Unknown party)
verified_as signer (Err (verify_fault.Bad k)) = Err (BadSignature signer k)

-- these drafts take the place of the owner's, and nothing is sent
abbrev pub with_drafts : Owner → List Change → OwnerAnswer Sent
with_drafts me drafts = Ok (sent [], record me { drafts = drafts })

-- the message is for another owner
abbrev pub is_own : Owner → ℕ → Result (Unit {0}) OwnerRefusal
is_own me owner = need (owner == me.number) NotForOwner

-- An endorsement comes: it is for this owner, its authority signed it, and a draft with the digest takes it.
abbrev pub endorsed_row : Owner → ℕ → ℕ → List ℕ → List ℕ → OwnerAnswer Sent
endorsed_row me owner authority certificate signature = do
  own ← is_own me owner
  valid ← verified_as (authority_party authority) (verified me.directory (authority_party authority) (text_of (endorse authority certificate)) signature)
  drafts ← changed_draft me.drafts certificate (endorsed (record { authority = authority; signature = signature }))
  with_drafts me drafts

-- why an announced key is refused
abbrev pub roll_refusal : Party → ℕ → LearnFault → OwnerRefusal
roll_refusal party generation learn_fault.Unknown = Unknown party
roll_refusal party generation (learn_fault.Bad k) = BadSignature party k
roll_refusal party generation learn_fault.Other = OtherRoll party generation
roll_refusal party generation learn_fault.Memory = Memory

-- the owner's directory learns the key, now or before
abbrev pub roll_row : Owner → Announced → OwnerAnswer Sent
roll_row me a = do
  new ← with_error (roll_refusal a.party a.generation) (learned me.directory a)
  Ok (sent [], record me { directory = after_learning me.directory a })

-- what a message does, by its kind
abbrev pub message_row : Owner → Message → OwnerAnswer Sent
message_row me (Endorsed owner authority certificate signature) = endorsed_row me owner authority certificate signature
message_row me (RollNote party generation key signature) = roll_row me (record { party = party; generation = generation; key = key; signature = signature })
message_row me _ = Err NotForOwner

-- what bytes that came do
abbrev pub step_row : Owner → List ℕ → OwnerAnswer Sent
step_row me bytes = do
  message ← with_error Form (message_in bytes)
  message_row me message

-- ---- handovers and answers

-- the owner agrees by its key to the certificate with this digest
abbrev pub handover_row : Owner → List ℕ → OwnerAnswer (List ℕ)
handover_row me digest = signed_by_owner me (handover digest)

-- the owner answers a challenge by its key, for the certificate with this digest of a name
abbrev pub staple_row : Owner → List ℕ → List ℕ → List ℕ → OwnerAnswer (List ℕ)
staple_row me name certificate challenge = signed_by_owner me (answer name certificate challenge)

-- a draft has this handover from now on
abbrev pub attach_row : Owner → List ℕ → List ℕ → OwnerAnswer (Unit {0})
attach_row me digest bytes = do
  drafts ← changed_draft me.drafts digest (handed_over bytes)
  Ok (tt, record me { drafts = drafts })

-- ---- what goes to the logs

-- the draft with this digest
abbrev pub draft_of : Owner → List ℕ → Result Change OwnerRefusal
draft_of me digest = ok_or (option_and_then (slice_get me.drafts) (place_of_draft me.drafts digest)) NoDraft

-- the draft with this digest goes to all logs, with the endorsements so far, however few; the owner stays as it is
abbrev pub submit_row : Owner → List ℕ → Result Sent OwnerRefusal
submit_row me digest = do
  draft ← draft_of me digest
  Ok (submission draft)

-- the owner objects by its key to a certificate, and tells all logs
abbrev pub object_row : Owner → Certificate → OwnerAnswer Sent
object_row me cert = do
  signature ← signed_by_owner me (object (digest_of cert))
  Ok (submission (objection cert signature.0), signature.1)
