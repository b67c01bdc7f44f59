-- How many messages a step sends, before it is signed and then.
use Rattle.std.proofs.Common.{◌≡◌, ℕ, ◌+◌, ◌≤◌, List, [], ◌∷◌, ◌++◌, length, subst, arith, Bool, true, false, cond, Option, Some, None}
use Rattle.std.specs.Prelude.{Ok, map}
use Rattle.std.proofs.lemmas.List.{length-append, length-map}
use Rattle.ar_cert.specs.Changes.{Change}
use Rattle.ar_message.specs.declared.lists.LogStatus.{LogStatus}
use Rattle.lms_tree.specs.declared.public_key.LmsPublic.{LmsPublic}
use Rattle.party_keys.specs.Learning.{Announced}
use Rattle.vote_quorum.specs.declared.value.Value.{Value}
use Rattle.epoch_log.specs.Calls.{after_ballot, after_propose, after_state, after_status_seen, is_turn}
use Rattle.epoch_log.specs.State.{LogState, epoch_of}
use Rattle.epoch_log.specs.declared.entries.Closing.{Closing}
use Rattle.epoch_log.specs.declared.entries.Closing.TheVariants as closings
use Rattle.epoch_log.specs.declared.entries.Newest.{Newest}
use Rattle.log_core.specs.Balloted.{ballot_checks, ballot_reply, ballot_row}
use Rattle.log_sending.specs.Checks.{Check}
use Rattle.log_core.specs.Steps.{given}
use Rattle.log_sending.specs.Closings.{closing_drafts, decision_drafts}
use Rattle.log_core.specs.Replies.{closing_reply}
use Rattle.log_core.specs.Confirming.{ConfirmQuestion, confirm_checks, confirm_reply, confirm_row}
use Rattle.log_core.specs.Decided.{Decision, decision_checks, decision_reply, decision_row}
use Rattle.log_core.specs.Learning.{roll_note_checks, roll_note_reply, roll_note_row}
use Rattle.log_core.specs.Passing.{passing_checks, passing_reply, passing_row, status_draft, status_drafts}
use Rattle.log_core.specs.Proposed.{Proposal, proposed_checks, proposed_reply, proposed_row}
use Rattle.log_core.specs.Proposing.{proposal, proposal_draft, proposed_value, proposing_checks, proposing_reply, proposing_row}
use Rattle.log_core.specs.Rolling.{rolling_checks, rolling_reply, rolling_row}
use Rattle.log_core.specs.Row.{row}
use Rattle.log_sending.specs.Sending.{DraftMessage, sent_letter}
use Rattle.log_core.specs.Skipped.{skip_checks, skip_reply, skip_row}
use Rattle.log_core.specs.State.{LogAnswer, CoreState, Input, LogStep, most_sent}
use Rattle.log_core.specs.Stated.{status_checks, status_reply, status_row}
use Rattle.log_core.specs.Submit.{submit_checks, submit_reply, submit_row}
use Rattle.log_core.proofs.EachRow.{row-gives}
use Rattle.log_core.proofs.Passed.{passed}

-- a reply sends few messages
abbrev IsFew : LogStep → Type 0
IsFew reply = length reply.unsigned.sent.messages ≤ most_sent

-- so does a row, where it answers
abbrev SendsFew : LogAnswer → Type 0
SendsFew answer = (reply : LogStep) → answer ≡ Ok reply → IsFew reply

-- ---- the closing rule

newest-one : (len : ℕ) (before after : LogState) (newest : Option Newest) → length (decision_drafts len before after newest) ≤ 1
newest-one len before after None = omega arith
newest-one len before after (Some w) = omega arith

closing-one : (closing : Closing) (len : ℕ) (before after : LogState) → length (closing_drafts closing len before after) ≤ 1
closing-one closings.Open len before after = omega arith
closing-one closings.Decided len before after = newest-one len before after after.newest
closing-one (closings.Skipped statuses) len before after = omega arith

closing-few : (s : CoreState) (before : LogState) (drafts : List DraftMessage) (x : LogState × Closing) → length drafts ≤ 1 → IsFew (closing_reply s before drafts x)
closing-few s before drafts x one =
    let more : List DraftMessage = closing_drafts x.1 s.signature_len before x.0 in
    let all : length (map sent_letter (drafts ++ more)) ≡ length (drafts ++ more) = length-map (drafts ++ more) sent_letter in
    let both : length (drafts ++ more) ≡ length drafts + length more = length-append drafts more in
    let other : length more ≤ 1 = closing-one x.1 s.signature_len before x.0 in
    omega (arith, all, both, other, one)

-- ---- each row

given-few : (checks : List Check) (reply : LogStep) → IsFew reply → SendsFew (given checks reply)
given-few checks reply few r answer = subst IsFew (passed checks reply r answer).1 few

proposing-few : (s : CoreState) → SendsFew (proposing_row s)
unfolding proposing_row
proposing-few s =
    given-few (proposing_checks s) (proposing_reply s)
    (closing-few s s.log (proposal_draft s (proposed_value s) (proposal s) ∷ []) (after_propose s.log (proposed_value s) (proposal s)) (omega arith))

passing-few : (s : CoreState) → SendsFew (passing_row s)
unfolding passing_row
passing-few s =
    given-few (passing_checks s) (passing_reply s)
    (closing-few s s.log (status_drafts s) (after_state s.log) (by (is_turn s.log.council s.log.me (epoch_of s.log + 1))))
  where
    by : (b : Bool) → length (cond b [] (status_draft s ∷ [])) ≤ 1
    by true = omega arith
    by false = omega arith

pub rolling-few : (s : CoreState) (key : LmsPublic) → SendsFew (rolling_row s key)
unfolding rolling_row
rolling-few s key = given-few (rolling_checks s) (rolling_reply s key) (omega arith)

submit-few : (s : CoreState) (change : Change) → SendsFew (submit_row s change)
unfolding submit_row
submit-few s change = given-few (submit_checks s change) (submit_reply s change) (omega arith)

proposed-few : (s : CoreState) (p : Proposal) → SendsFew (proposed_row s p)
unfolding proposed_row
proposed-few s p = given-few (proposed_checks s p) (proposed_reply s p) (omega arith)

ballot-few : (s : CoreState) (log epoch : ℕ) (value : Value) (signature : List ℕ) → SendsFew (ballot_row s log epoch value signature)
unfolding ballot_row
ballot-few s log epoch value signature =
    given-few (ballot_checks s log epoch value signature) (ballot_reply s log value signature)
    (closing-few s s.log [] (after_ballot s.log log value signature) (omega arith))

status-few : (s : CoreState) (log epoch : ℕ) (value : Option Value) (signature : List ℕ) → SendsFew (status_row s log epoch value signature)
unfolding status_row
status-few s log epoch value signature =
    given-few (status_checks s log epoch value signature) (status_reply s log value signature)
    (closing-few s s.log [] (after_status_seen s.log log value (Some signature)) (omega arith))

decision-few : (s : CoreState) (d : Decision) → SendsFew (decision_row s d)
unfolding decision_row
decision-few s d = given-few (decision_checks s d) (decision_reply s d) (omega arith)

skip-few : (s : CoreState) (epoch : ℕ) (statuses : List LogStatus) → SendsFew (skip_row s epoch statuses)
unfolding skip_row
skip-few s epoch statuses = given-few (skip_checks s epoch statuses) (skip_reply s statuses) (omega arith)

confirm-few : (s : CoreState) (asked : ConfirmQuestion) → SendsFew (confirm_row s asked)
unfolding confirm_row
confirm-few s asked = given-few (confirm_checks s asked) (confirm_reply s s.log.newest asked) (by s.log.newest)
  where
    by : (newest : Option Newest) → IsFew (confirm_reply s newest asked)
    by None = omega arith
    by (Some w) = omega arith

roll_note-few : (s : CoreState) (a : Announced) → SendsFew (roll_note_row s a)
unfolding roll_note_row
roll_note-few s a = given-few (roll_note_checks s a) (roll_note_reply s a) (omega arith)

pub row-few : (s : CoreState) (input : Input) → SendsFew (row s input)
row-few s input = row-gives IsFew s (record {
  submit = submit-few s;
  proposed = proposed-few s;
  ballot = ballot-few s;
  status = status-few s;
  decision = decision-few s;
  skip = skip-few s;
  confirm = confirm-few s;
  roll_note = roll_note-few s;
  proposing = proposing-few s;
  passing = passing-few s;
}) (rolling-few s) input

-- ---- signed
