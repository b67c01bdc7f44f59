-- What the reply of each row has, the reply to each input has.
use Rattle.std.specs.Prelude.{◌≡◌, ℕ, List, Option, Ok, Err, Result}
use Rattle.ar_cert.specs.Changes.{Change}
use Rattle.ar_statement.specs.Claims.{value_with}
use Rattle.ar_message.specs.Messages.{message_in}
use Rattle.ar_message.specs.declared.lists.LogStatus.{LogStatus}
use Rattle.ar_message.specs.declared.message.Message.{Message}
use Rattle.ar_message.specs.declared.message.Message.TheVariants as messages
use Rattle.lms_tree.specs.declared.public_key.LmsPublic.{LmsPublic}
use Rattle.party_keys.specs.Learning.{Announced}
use Rattle.vote_quorum.specs.declared.value.Value.{Value}
use Rattle.log_core.specs.Balloted.{ballot_row}
use Rattle.log_core.specs.Confirming.{ConfirmQuestion, confirm_row}
use Rattle.log_core.specs.Decided.{Decision, decision_row}
use Rattle.log_core.specs.Keyed.{IsPlain}
use Rattle.log_core.specs.Learning.{roll_note_row}
use Rattle.log_core.specs.Passing.{passing_row}
use Rattle.log_core.specs.Proposed.{Proposal, proposed_row}
use Rattle.log_core.specs.Proposing.{proposing_row}
use Rattle.log_core.specs.Rolling.{rolling_row}
use Rattle.log_core.specs.Row.{message_row, read_row, row}
use Rattle.log_core.specs.Skipped.{skip_row}
use Rattle.log_core.specs.State.{LogAnswer, CoreState, Input, LogStep, passes, proposes, rolls, takes}
use Rattle.log_core.specs.Stated.{status_row}
use Rattle.log_core.specs.Submit.{submit_row}

-- a row's reply, where it does not refuse, has this property
abbrev pub RepliesWith : (LogStep → Type 0) → LogAnswer → Type 0
RepliesWith P answer = (reply : LogStep) → answer ≡ Ok reply → P reply

-- so has the reply of each row but that of a Roll
pub record EachReplies (P : LogStep → Type 0) (s : CoreState) : Type 0 where
  pub submit : (change : Change) → RepliesWith P (submit_row s change)
  pub proposed : (p : Proposal) → RepliesWith P (proposed_row s p)
  pub ballot : (log epoch : ℕ) (value : Value) (signature : List ℕ) → RepliesWith P (ballot_row s log epoch value signature)
  pub status : (log epoch : ℕ) (value : Option Value) (signature : List ℕ) → RepliesWith P (status_row s log epoch value signature)
  pub decision : (d : Decision) → RepliesWith P (decision_row s d)
  pub skip : (epoch : ℕ) (statuses : List LogStatus) → RepliesWith P (skip_row s epoch statuses)
  pub confirm : (asked : ConfirmQuestion) → RepliesWith P (confirm_row s asked)
  pub roll_note : (a : Announced) → RepliesWith P (roll_note_row s a)
  pub proposing : RepliesWith P (proposing_row s)
  pub passing : RepliesWith P (passing_row s)

message-gives : (P : LogStep → Type 0) (s : CoreState) → EachReplies P s → (m : Message) → RepliesWith P (message_row s m)
message-gives P s each (messages.EndorseAsk owner cert) reply answer = absurd cc
message-gives P s each (messages.Endorsed owner authority certificate signature) reply answer = absurd cc
message-gives P s each (messages.Submit change) reply answer = each.submit change reply answer
message-gives P s each (messages.Propose log epoch base root changes signature) reply answer =
    each.proposed (record { log = log; epoch = epoch; value = value_with base root; changes = changes; signature = signature }) reply answer
message-gives P s each (messages.Ballot log epoch base root signature) reply answer = each.ballot log epoch (value_with base root) signature reply answer
message-gives P s each (messages.StatusNote log epoch value signature) reply answer =
    each.status log epoch value signature reply answer
message-gives P s each (messages.Decision epoch base root changes votes) reply answer =
    each.decision (record { epoch = epoch; value = value_with base root; changes = changes; votes = votes }) reply answer
message-gives P s each (messages.SkipNote epoch statuses) reply answer = each.skip epoch statuses reply answer
message-gives P s each (messages.ConfirmAsk client name first second) reply answer =
    each.confirm (record { client = client; name = name; first = first; second = second }) reply answer
message-gives P s each (messages.LogConfirmed part) reply answer = absurd cc
message-gives P s each (messages.HalfConfirmed part first_signature) reply answer = absurd cc
message-gives P s each (messages.Confirmation client epoch name root body log log_signature first first_signature second second_signature) reply answer =
    absurd cc
message-gives P s each (messages.RollNote party generation key signature) reply answer =
    each.roll_note (record { party = party; generation = generation; key = key; signature = signature }) reply answer

read-gives : (P : LogStep → Type 0) (s : CoreState) → EachReplies P s → (read : Result Message ℕ) → RepliesWith P (read_row s read)
read-gives P s each (Ok m) reply answer = message-gives P s each m reply answer
read-gives P s each (Err place) reply answer = absurd cc

-- the reply to each input but a Roll
pub plain-gives : (P : LogStep → Type 0) (s : CoreState) → EachReplies P s → (input : Input) → IsPlain input → RepliesWith P (row s input)
unfolding row
plain-gives P s each (takes bytes) plain reply answer = read-gives P s each (message_in bytes) reply answer
plain-gives P s each proposes plain reply answer = each.proposing reply answer
plain-gives P s each passes plain reply answer = each.passing reply answer
plain-gives P s each (rolls key) plain reply answer = absurd plain

-- the reply to each input
pub row-gives : (P : LogStep → Type 0) (s : CoreState) → EachReplies P s → ((key : LmsPublic) → RepliesWith P (rolling_row s key)) → (input : Input)
    → RepliesWith P (row s input)
unfolding row
row-gives P s each rolling (takes bytes) reply answer = read-gives P s each (message_in bytes) reply answer
row-gives P s each rolling proposes reply answer = each.proposing reply answer
row-gives P s each rolling passes reply answer = each.passing reply answer
row-gives P s each rolling (rolls key) reply answer = rolling key reply answer
