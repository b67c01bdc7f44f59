-- The row of an authority: what it makes of a message, by what its check answered.
use Rattle.std.specs.Prelude.{ℕ, Bool, List, Option, Some, None, Result, Ok, Err}
use Rattle.ar_message.specs.declared.message.Message.{Message}
use Rattle.ar_message.specs.declared.message.Message.TheVariants.{EndorseAsk, Endorsed, Submit, Propose, Ballot, StatusNote, Decision, SkipNote, ConfirmAsk, LogConfirmed, HalfConfirmed, Confirmation, RollNote}
use Rattle.owner_check.specs.declared.answer.CheckAnswer as check
use Rattle.owner_check.specs.declared.answer.Outcome.{Outcome}
use Rattle.authority_core.specs.ConfirmRows.{half_confirmed_row, log_confirmed_row}
use Rattle.authority_core.specs.EndorseRow.{answers_after, asked_of, endorse_row}
use Rattle.authority_core.specs.RollRows.{roll_note_row}
use Rattle.authority_core.specs.State.{AuthorityAnswer, AuthorityState}
use Rattle.authority_core.specs.declared.entries.Approved.{Approved}
use Rattle.authority_core.specs.declared.refusal.AuthorityRefusal.{AuthorityRefusal}
use Rattle.authority_core.specs.declared.refusal.AuthorityRefusal.TheVariants.{Form, NotForAuthority}

-- the row of a message
unfoldable pub message_row : AuthorityState → Bool → Message → Outcome → AuthorityAnswer
message_row s retired (EndorseAsk owner cert) said = endorse_row s retired owner cert said
message_row s retired (LogConfirmed part) said = log_confirmed_row s part
message_row s retired (HalfConfirmed part first_signature) said = half_confirmed_row s part first_signature
message_row s retired (RollNote party generation key signature) said = roll_note_row s (record { party = party; generation = generation; key = key; signature = signature })
message_row s retired (Endorsed owner authority certificate signature) said = Err NotForAuthority
message_row s retired (Submit change) said = Err NotForAuthority
message_row s retired (Propose log epoch base root changes signature) said = Err NotForAuthority
message_row s retired (Ballot log epoch base root signature) said = Err NotForAuthority
message_row s retired (StatusNote log epoch value signature) said = Err NotForAuthority
message_row s retired (Decision epoch base root changes votes) said = Err NotForAuthority
message_row s retired (SkipNote epoch statuses) said = Err NotForAuthority
message_row s retired (ConfirmAsk client name first second) said = Err NotForAuthority
message_row s retired (Confirmation client epoch name root body log log_signature first first_signature second second_signature) said = Err NotForAuthority

-- the row of bytes, which are a message or fail at a place
abbrev pub row : AuthorityState → Bool → Result Message ℕ → Outcome → AuthorityAnswer
row s retired (Ok message) said = message_row s retired message said
row s retired (Err place) said = Err (Form place)

-- ---- the check

-- what a message asks of the check, where the authority has not retired
abbrev pub asked_in : Result Message ℕ → Option Approved
asked_in (Ok (EndorseAsk owner cert)) = Some (asked_of cert)
asked_in _ = None

-- the check's list behind a step that came to this answer
abbrev pub answers_behind : {A : Type 0} → List check.CheckAnswer → Option Approved → Result A AuthorityRefusal → List check.CheckAnswer
answers_behind answers None result = answers
answers_behind answers (Some a) result = answers_after answers a result
