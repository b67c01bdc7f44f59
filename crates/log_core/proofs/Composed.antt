-- What each row sends is composed of drafts, each with zero bytes where a signature of the log's own is due.
use Rattle.std.proofs.Common.{◌≡◌, ℕ, ◌+◌, List, [], ◌∷◌, ◌++◌, refl, subst, Bool, true, false, cond, Option, Some, None}
use Rattle.std.specs.Prelude.{Ok}
use Rattle.std.specs.List.{AllByRecursion}
use Rattle.ar_cert.specs.Changes.{Change}
use Rattle.ar_message.specs.declared.address.Address.TheVariants.{Logs, One}
use Rattle.ar_message.specs.declared.lists.LogStatus.{LogStatus}
use Rattle.ar_statement.specs.Claims.{log_party, text_of}
use Rattle.key_roll.specs.Entry.{roll_text}
use Rattle.party_keys.specs.Learning.{Announced}
use Rattle.vote_quorum.specs.declared.value.Value.{Value}
use Rattle.epoch_log.specs.Calls.{after_ballot, after_confirm, after_propose, after_state, after_status_seen, after_vote, is_turn, own_status_text, own_value, own_vote_text, propose_claim}
use Rattle.epoch_log.specs.Ending.{own_vote}
use Rattle.epoch_log.specs.State.{LogState, epoch_of, newest_value}
use Rattle.log_sending.specs.Checks.{turn_of}
use Rattle.lms_tree.specs.declared.public_key.LmsPublic.{LmsPublic}
use Rattle.epoch_log.specs.declared.entries.Closing.{Closing}
use Rattle.epoch_log.specs.declared.entries.Closing.TheVariants as closings
use Rattle.epoch_log.specs.declared.entries.Newest.{Newest}
use Rattle.log_core.specs.Balloted.{ballot_checks, ballot_reply, ballot_row}
use Rattle.log_sending.specs.Blanks.{IsDraft}
use Rattle.log_sending.specs.Closings.{changes_of_vote, closing_drafts, decision_drafts, ended_by}
use Rattle.log_core.specs.Replies.{closing_reply, open_reply}
use Rattle.log_core.specs.Confirming.{ConfirmQuestion, confirm_checks, confirm_reply, confirm_row, confirmed_draft}
use Rattle.log_core.specs.Decided.{Decision, decision_checks, decision_reply, decision_row}
use Rattle.log_core.specs.Learning.{roll_note_checks, roll_note_reply, roll_note_row}
use Rattle.log_core.specs.Passing.{passing_checks, passing_reply, passing_row, status_draft, status_drafts}
use Rattle.log_core.specs.Proposed.{Proposal, ballot_draft, proposed_checks, proposed_reply, proposed_row}
use Rattle.log_core.specs.Proposing.{proposal, proposal_draft, proposed_value, proposing_checks, proposing_reply, proposing_row}
use Rattle.log_core.specs.Rolling.{roll_draft, rolling_checks, rolling_reply, rolling_row}
use Rattle.log_core.specs.Row.{row}
use Rattle.log_sending.specs.Sending.{DraftMessage}
use Rattle.log_core.specs.Skipped.{skip_checks, skip_reply, skip_row}
use Rattle.log_core.specs.State.{CoreState, Input, LogStep}
use Rattle.log_core.specs.Stated.{status_checks, status_reply, status_row}
use Rattle.log_core.specs.Submit.{submit_checks, submit_reply, submit_row}
use Rattle.log_sending.proofs.Blanks.{IsComposed}
use Rattle.log_core.proofs.EachRow.{row-gives}
use Rattle.log_core.proofs.Passed.{passed}
use Rattle.log_sending.proofs.ZeroBytes.{ballot-is_draft, decision-is_draft, propose-draft, roll-is_draft, skip-is_draft, status-is_draft}
use Rattle.log_core.proofs.ConfirmedDrafts.{confirmed-is_draft}
use Rattle.ar_base.proofs.Lists.{both-lists}

-- what a reply sends is composed, with the leaves of the book behind it
abbrev Composed : LogStep → Type 0
Composed reply = IsComposed reply.after.log.past.signed reply.after.signature_len reply.unsigned

-- ---- the closing rule

newest-are : (len : ℕ) (before after : LogState) (newest : Option Newest) → AllByRecursion (IsDraft len) (decision_drafts len before after newest)
newest-are len before after None = tt
newest-are len before after (Some w) =
    (decision-is_draft len (own_vote_text before (newest_value w)) w (changes_of_vote (own_vote after.past.voted w.epoch)), tt)

closing-are : (closing : Closing) (len : ℕ) (before after : LogState) → AllByRecursion (IsDraft len) (closing_drafts closing len before after)
closing-are closings.Open len before after = tt
closing-are closings.Decided len before after = newest-are len before after after.newest
closing-are (closings.Skipped statuses) len before after = (skip-is_draft len (own_status_text before) (epoch_of before) statuses, tt)

closing-composed : (s : CoreState) (before : LogState) (drafts : List DraftMessage) (x : LogState × Closing) → AllByRecursion (IsDraft s.signature_len) drafts
    → Composed (closing_reply s before drafts x)
closing-composed s before drafts x each = record {
  drafts = drafts ++ closing_drafts x.1 s.signature_len before x.0;
  ended = ended_by x.1 (epoch_of before) x.0.newest;
  is = refl;
  each = both-lists (IsDraft s.signature_len) drafts (closing_drafts x.1 s.signature_len before x.0) each (closing-are x.1 s.signature_len before x.0);
}

open-composed : (s : CoreState) (after : LogState) (draft : DraftMessage) → IsDraft s.signature_len draft → Composed (open_reply s after (draft ∷ []))
open-composed s after draft is = record { drafts = draft ∷ []; ended = None; is = refl; each = (is, tt) }

-- ---- each row

proposing-composed : (s : CoreState) (reply : LogStep) → proposing_row s ≡ Ok reply → Composed reply
unfolding proposing_row
proposing-composed s reply answer =
    let h = passed (proposing_checks s) (proposing_reply s) reply answer in
    let value : Value = proposed_value s in
    let one : IsDraft s.signature_len (proposal_draft s value (proposal s)) =
    propose-draft Logs s.log.me (epoch_of s.log) value.base value.root (proposal s) s.signature_len (text_of (propose_claim s.log value)) in
    subst Composed h.1 (closing-composed s s.log (proposal_draft s value (proposal s) ∷ []) (after_propose s.log value (proposal s)) (one, tt))

passing-composed : (s : CoreState) (reply : LogStep) → passing_row s ≡ Ok reply → Composed reply
unfolding passing_row
passing-composed s reply answer =
    let h = passed (passing_checks s) (passing_reply s) reply answer in
    subst Composed h.1 (closing-composed s s.log (status_drafts s) (after_state s.log) (by (is_turn s.log.council s.log.me (epoch_of s.log + 1))))
  where
    by : (b : Bool) → AllByRecursion (IsDraft s.signature_len) (cond b [] (status_draft s ∷ []))
    by true = tt
    by false = (
      status-is_draft (One (log_party (turn_of s.log.council (epoch_of s.log + 1)))) s.log.me (epoch_of s.log) (own_value s.log)
          s.signature_len (own_status_text s.log),
      tt,
    )

rolling-composed : (s : CoreState) (key : LmsPublic) (reply : LogStep) → rolling_row s key ≡ Ok reply → Composed reply
unfolding rolling_row
rolling-composed s key reply answer =
    let h = passed (rolling_checks s) (rolling_reply s key) reply answer in
    let newest : ℕ = s.log.past.signed.newest in
    subst Composed h.1 (record {
      drafts = roll_draft s key ∷ [];
      ended = None;
      is = refl;
      each = (roll-is_draft Logs (log_party s.log.me) newest key s.signature_len (roll_text (log_party s.log.me) newest key), tt);
    })

submit-composed : (s : CoreState) (change : Change) (reply : LogStep) → submit_row s change ≡ Ok reply → Composed reply
unfolding submit_row
submit-composed s change reply answer =
    let h = passed (submit_checks s change) (submit_reply s change) reply answer in
    subst Composed h.1 (record { drafts = []; ended = None; is = refl; each = tt })

proposed-composed : (s : CoreState) (p : Proposal) (reply : LogStep) → proposed_row s p ≡ Ok reply → Composed reply
unfolding proposed_row
proposed-composed s p reply answer =
    let h = passed (proposed_checks s p) (proposed_reply s p) reply answer in
    subst Composed h.1
    (open-composed s (after_vote s.log p.log p.value p.changes) (ballot_draft s p.value)
    (ballot-is_draft (One (log_party (turn_of s.log.council (epoch_of s.log)))) s.log.me (epoch_of s.log) p.value.base p.value.root s.signature_len (own_vote_text s.log p.value)))

ballot-composed : (s : CoreState) (log epoch : ℕ) (value : Value) (signature : List ℕ) (reply : LogStep) → ballot_row s log epoch value signature ≡ Ok reply → Composed reply
unfolding ballot_row
ballot-composed s log epoch value signature reply answer =
    let h = passed (ballot_checks s log epoch value signature) (ballot_reply s log value signature) reply answer in
    subst Composed h.1 (closing-composed s s.log [] (after_ballot s.log log value signature) tt)

status-composed : (s : CoreState) (log epoch : ℕ) (value : Option Value) (signature : List ℕ) (reply : LogStep) → status_row s log epoch value signature ≡ Ok reply → Composed reply
unfolding status_row
status-composed s log epoch value signature reply answer =
    let h = passed (status_checks s log epoch value signature) (status_reply s log value signature) reply answer in
    subst Composed h.1 (closing-composed s s.log [] (after_status_seen s.log log value (Some signature)) tt)

decision-composed : (s : CoreState) (d : Decision) (reply : LogStep) → decision_row s d ≡ Ok reply → Composed reply
unfolding decision_row
decision-composed s d reply answer =
    let h = passed (decision_checks s d) (decision_reply s d) reply answer in
    subst Composed h.1 (record { drafts = []; ended = (decision_reply s d).unsigned.sent.ended; is = refl; each = tt })

skip-composed : (s : CoreState) (epoch : ℕ) (statuses : List LogStatus) (reply : LogStep) → skip_row s epoch statuses ≡ Ok reply → Composed reply
unfolding skip_row
skip-composed s epoch statuses reply answer =
    let h = passed (skip_checks s epoch statuses) (skip_reply s statuses) reply answer in
    subst Composed h.1 (record { drafts = []; ended = (skip_reply s statuses).unsigned.sent.ended; is = refl; each = tt })

confirm-composed : (s : CoreState) (asked : ConfirmQuestion) (reply : LogStep) → confirm_row s asked ≡ Ok reply → Composed reply
unfolding confirm_row
confirm-composed s asked reply answer =
    let h = passed (confirm_checks s asked) (confirm_reply s s.log.newest asked) reply answer in
    subst Composed h.1 (by s.log.newest)
  where
    by : (newest : Option Newest) → Composed (confirm_reply s newest asked)
    by None = record { drafts = []; ended = None; is = refl; each = tt }
    by (Some w) = open-composed s (after_confirm s.log w asked.name) (confirmed_draft s w asked) (confirmed-is_draft s w asked)

roll_note-composed : (s : CoreState) (a : Announced) (reply : LogStep) → roll_note_row s a ≡ Ok reply → Composed reply
unfolding roll_note_row
roll_note-composed s a reply answer =
    let h = passed (roll_note_checks s a) (roll_note_reply s a) reply answer in
    subst Composed h.1 (record { drafts = []; ended = None; is = refl; each = tt })

pub row-composed : (s : CoreState) (input : Input) (reply : LogStep) → row s input ≡ Ok reply → Composed reply
row-composed s input reply answer = row-gives Composed s (record {
  submit = submit-composed s;
  proposed = proposed-composed s;
  ballot = ballot-composed s;
  status = status-composed s;
  decision = decision-composed s;
  skip = skip-composed s;
  confirm = confirm-composed s;
  roll_note = roll_note-composed s;
  proposing = proposing-composed s;
  passing = passing-composed s;
}) (rolling-composed s) input reply answer
