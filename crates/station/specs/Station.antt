-- A log or an authority without its keys, as plain data, and its step: what it replies to the bytes of a message, before it is
-- signed, and where it stands then.
use Rattle.std.specs.Prelude.{◌≡◌, ℕ, ◌==◌, Bool, false, if◌then◌else◌, List, [], ◌∷◌, unwrap_or, Option, IfSome, Some, None, Result, Ok, Err}
use Rattle.std.specs.Option.{option_map}
use Rattle.ar_base.specs.Bytes.{AreBytes}
use Rattle.ar_message.specs.Messages.{message_in}
use Rattle.ar_message.specs.declared.message.Message.{Message}
use Rattle.ar_message.specs.declared.unsigned.Unsigned.{Unsigned}
use Rattle.authority_core.specs.EndorseRow.{outcome_by}
use Rattle.authority_core.specs.Row.{asked_in}
use Rattle.authority_core.specs.State as authority
use Rattle.authority_core.specs.declared.entries.Approved.{Approved}
use Rattle.authority_core.specs.declared.refusal.AuthorityRefusal.{AuthorityRefusal}
use Rattle.authority_core.specs.declared.refusal.AuthorityRefusal.TheVariants as refusals
use Rattle.log_core.specs.Row.{row}
use Rattle.log_core.specs.State as log
use Rattle.owner_check.specs.Answers.{Told, outcome_of}
use Rattle.owner_check.specs.declared.answer.CheckAnswer.{CheckAnswer}
use Rattle.owner_check.specs.declared.answer.Outcome.{Outcome}
use Rattle.owner_check.specs.declared.answer.Outcome.TheVariants.{No}
use Rattle.report_text.specs.declared.happening.Code.{Code}
use Rattle.ar_nodes.specs.Authorities.{authority_reply, check_after}
use Rattle.ar_nodes.specs.Codes.{authority_code, log_code}
use Rattle.ar_nodes.specs.Parties.{CheckParts, check_told}
use Rattle.station.specs.declared.delivery.Delivery.{Delivery}
use Rattle.station.specs.declared.station.Station.{Station}
use Rattle.station.specs.declared.station.Station.TheVariants as stations

-- a log, or an authority and what its check tells and has answered, unless it has retired
pub data StationState : Type 0 where
  a_log : (core : log.CoreState) → StationState
  an_authority : (state : authority.AuthorityState) (check : Option CheckParts) → StationState

-- a station as plain data
abbrev pub station_told : {C : Type 0} → (C → Option Told) → (C → List CheckAnswer) → Station C → StationState
station_told told answers (stations.Log core) = a_log core
station_told told answers (stations.Authority core) = an_authority core.state (option_map (check_told told answers) core.check)

-- ---- the step

-- what a station sends before it is signed, or the code of its refusal
abbrev pub Unfilled : Type 0
Unfilled = Result Unsigned Code

-- a log by the answer of its row
abbrev pub log_replied : log.CoreState → log.LogAnswer → Unfilled × StationState
log_replied s (Ok reply) = (Ok reply.unsigned, a_log reply.after)
log_replied s (Err refusal) = (Err (log_code refusal), a_log s)

-- an authority by the answer of its row, with its check behind that
abbrev pub authority_replied : authority.AuthorityState → Option CheckParts → authority.AuthorityAnswer → Unfilled × StationState
authority_replied s check (Ok made) = (Ok made.1, an_authority made.0 check)
authority_replied s check (Err refusal) = (Err (authority_code refusal), an_authority s check)

-- an authority by a message, where a check that tells nothing of itself says this
abbrev pub authority_took : Outcome → authority.AuthorityState → Option CheckParts → Result Message ℕ → Unfilled × StationState
authority_took says s check message =
    let answer = authority_reply says s check message
    in authority_replied s (check_after check message answer) answer

-- a station by what is brought to it, where its check answers as the note says
abbrev pub replied_at : StationState → Delivery → Option Outcome → Unfilled × StationState
replied_at (a_log s) d _ = log_replied s (row s (log.takes d.bytes))
replied_at (an_authority s check) d note = authority_took (unwrap_or note No) s check (message_in d.bytes)

-- ---- the note

-- What the history keeps of an authority's step: what the check answered where it was asked, which of a check that tells its
-- book and failing numbers is by those; and nothing where it was not asked, or the authority had retired.
abbrev pub IsAnswerOf : Option CheckParts → Option Approved → Option Outcome → Type 0
IsAnswerOf None asked note = note ≡ None
IsAnswerOf (Some check) None note = note ≡ None
IsAnswerOf (Some check) (Some asked) None = ⊥
IsAnswerOf (Some check) (Some asked) (Some said) = IfSome check.told (λ t. said ≡ outcome_of t check.answers asked.name asked.key)

-- the bytes are bytes, and the note is one that the station's step may have
abbrev pub IsNoted : StationState → Delivery → Option Outcome → Type 0
IsNoted (a_log s) d note = AreBytes d.bytes × (note ≡ None)
IsNoted (an_authority s check) d note = AreBytes d.bytes × IsAnswerOf check (asked_in (message_in d.bytes)) note

-- ---- how a program tells the note

-- whether bytes, where they are a message, ask for an endorsement: its kind is the first
abbrev pub asks_to_endorse : List ℕ → Bool
asks_to_endorse [] = false
asks_to_endorse (kind ∷ fields) = kind == 1

-- what the check answered, where bytes that ask for an endorsement led to this answer
abbrev pub answered_by : {A : Type 0} → Result A AuthorityRefusal → Option Outcome
answered_by (Err (refusals.Form place)) = None
answered_by (Err refusals.NotForAuthority) = None
answered_by result = Some (outcome_by result)

-- the note of an authority's step by the bytes and the answer
abbrev pub note_by : {A : Type 0} → List ℕ → Result A AuthorityRefusal → Option Outcome
note_by bytes result = if asks_to_endorse bytes then answered_by result else None

-- an authority's answer with the code of its refusal
abbrev pub coded : Result Unsigned AuthorityRefusal → Unfilled
coded (Ok unsigned) = Ok unsigned
coded (Err refusal) = Err (authority_code refusal)
