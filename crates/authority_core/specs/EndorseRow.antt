-- The row of a request to endorse a certificate.
use Rattle.std.specs.Prelude.{◌≡◌, ℕ, Bool, if◌then◌else◌, List, Option, IfSome, Result, Ok, Err}
use Rattle.ar_statement.specs.Claims.{endorse, owner_party}
use Rattle.ar_cert.specs.Certificate.{Certificate, digest_of}
use Rattle.ar_message.specs.Messages.{message_text}
use Rattle.ar_message.specs.declared.address.Address.TheVariants.{One}
use Rattle.ar_message.specs.declared.message.Message.TheVariants.{Endorsed}
use Rattle.ar_message.specs.declared.message.Message.{Message}
use Rattle.ar_message.specs.Filling.{zeros}
use Rattle.key_roll.specs.Due.{DueParts}
use Rattle.lms_tree.specs.PublicKey.{key_text}
use Rattle.owner_check.specs.Answers.{Told, outcome_of, with_answer}
use Rattle.owner_check.specs.declared.answer.CheckAnswer.{CheckAnswer}
use Rattle.owner_check.specs.declared.answer.Outcome.{Outcome}
use Rattle.owner_check.specs.declared.answer.Outcome.TheVariants.{Yes, No, Failed}
use Rattle.authority_core.specs.Calls.{after_endorse}
use Rattle.authority_core.specs.State as state
use Rattle.authority_core.specs.Record.{AuthorityRecord}
use Rattle.authority_core.specs.State.{AuthorityState, entering, if_due, sends}
use Rattle.authority_core.specs.declared.entries.Approved.{Approved}
use Rattle.authority_core.specs.declared.refusal.AuthorityRefusal.{AuthorityRefusal}
use Rattle.authority_core.specs.declared.refusal.AuthorityRefusal.TheVariants.{CheckFault, Memory, NotForAuthority, NotOwner}

-- what the check is asked of a certificate: whether the subject key is the name's
abbrev pub asked_of : Certificate → Approved
asked_of cert = record { name = cert.name; key = key_text cert.subject; certificate = digest_of cert }

-- what is due by what the check answered
abbrev pub endorse_due : ℕ → AuthorityRecord → Approved → Outcome → Result DueParts AuthorityRefusal
endorse_due me r a Failed = Err CheckFault
endorse_due me r a No = Err NotOwner
endorse_due me r a Yes = entering r (endorse me a.certificate)

-- the owner who asked gets the endorsement
abbrev pub endorsed_message : AuthorityState → ℕ → List ℕ → Message
endorsed_message s owner certificate = Endorsed owner s.me certificate (zeros s.signature_len)

-- the row of what is asked
unfoldable pub endorsing : AuthorityState → ℕ → Approved → Outcome → state.AuthorityAnswer
endorsing s owner a said =
    if_due (endorse_due s.me s.past a said)
    (λ due. (record s { past = after_endorse s.me s.past a }, sends s.signature_len (One (owner_party owner)) (message_text (endorsed_message s owner a.certificate)) due))

-- the row: an authority that has retired endorses nothing
abbrev pub endorse_row : AuthorityState → Bool → ℕ → Certificate → Outcome → state.AuthorityAnswer
endorse_row s retired owner cert said = if retired then Err NotForAuthority else endorsing s owner (asked_of cert) said

-- ---- what the check answered

-- what the check answered where its answer led to this one
abbrev pub outcome_by : {A : Type 0} → Result A AuthorityRefusal → Outcome
outcome_by (Ok _) = Yes
outcome_by (Err NotOwner) = No
outcome_by (Err CheckFault) = Failed
outcome_by (Err _) = Yes

-- the check's list behind an ask that led to this answer: one more, but for want of memory
abbrev pub answers_after : {A : Type 0} → List CheckAnswer → Approved → Result A AuthorityRefusal → List CheckAnswer
answers_after answers a (Err Memory) = answers
answers_after answers a (Ok x) = with_answer answers a.name a.key Yes
answers_after answers a (Err NotOwner) = with_answer answers a.name a.key No
answers_after answers a (Err CheckFault) = with_answer answers a.name a.key Failed
answers_after answers a (Err _) = with_answer answers a.name a.key Yes

-- A check that tells its book and its failing numbers answered by them, but for want of memory.
abbrev pub SaysAsTold : {A : Type 0} → Option Told → List CheckAnswer → Approved → Result A AuthorityRefusal → Type 0
SaysAsTold told answers a (Err Memory) = Unit {0}
SaysAsTold told answers a result = IfSome told (λ t. outcome_by result ≡ outcome_of t answers a.name a.key)
