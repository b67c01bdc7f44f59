-- Each row only adds to a log's record, and what it signs is of the book behind it.
use Rattle.std.proofs.Common.{◌≡◌, ℕ, List, [], ◌∷◌, ◌∙◌, Bool, true, false, cond, Option, Some, None, Ok, ap, subst}
use Rattle.std.specs.List.{AllByRecursion}
use Rattle.ar_cert.specs.Changes.{Change}
use Rattle.ar_message.specs.declared.lists.LogStatus.{LogStatus}
use Rattle.ar_message.specs.declared.unsigned.Blank.{Blank}
use Rattle.key_roll.specs.Book.{RollBook}
use Rattle.key_roll.specs.Entry.{due_of}
use Rattle.key_roll.specs.Later.{IsServed}
use Rattle.key_roll.proofs.Later.{due_is_for, due_is_served}
use Rattle.lms_tree.specs.PublicKey.{key_text}
use Rattle.lms_tree.specs.declared.public_key.LmsPublic.{LmsPublic}
use Rattle.party_keys.specs.Learning.{Announced}
use Rattle.vote_quorum.specs.declared.value.Value.{Value}
use Rattle.epoch_log.specs.Later.{LogGrows}
use Rattle.epoch_log.specs.declared.entries.Newest.{Newest}
use Rattle.epoch_log.proofs.Later.{ballot_adds, change_adds, confirm_adds, decision_adds, learn_adds, proposal_adds, roll_adds, same_record, skip_adds, state_adds, status_adds, vote_adds}
use Rattle.log_core.specs.Balloted.{ballot_checks, ballot_reply, ballot_row}
use Rattle.log_core.specs.Confirming.{ConfirmQuestion, confirm_checks, confirm_reply, confirm_row}
use Rattle.log_core.specs.Decided.{Decision, decision_checks, decision_reply, decision_row, plain_votes}
use Rattle.log_core.specs.Learning.{roll_note_checks, roll_note_reply, roll_note_row}
use Rattle.log_core.specs.Passing.{passing_checks, passing_reply, passing_row}
use Rattle.log_core.specs.Proposed.{Proposal, proposed_checks, proposed_reply, proposed_row}
use Rattle.log_core.specs.Proposing.{proposal, proposed_value, proposing_checks, proposing_reply, proposing_row}
use Rattle.log_core.specs.Rolling.{rolling_checks, rolling_reply, rolling_row}
use Rattle.log_core.specs.Row.{row}
use Rattle.log_core.specs.Skipped.{signed_statuses, skip_checks, skip_reply, skip_row}
use Rattle.log_core.specs.State.{CoreState, Input, LogStep}
use Rattle.log_core.specs.Stated.{status_checks, status_reply, status_row}
use Rattle.log_core.specs.Submit.{queueing, submit_checks, submit_reply, submit_row}
use Rattle.log_core.proofs.Composed.{row-composed}
use Rattle.log_core.proofs.EachRow.{row-gives}
use Rattle.log_core.proofs.Passed.{passed}
use Rattle.log_sending.proofs.Blanks.{IsDueIn, composed-due}
use Rattle.log_sending.specs.Queued.{is_queued}

-- ---- the record

abbrev Adds : CoreState → LogStep → Type 0
Adds s reply = LogGrows s.log.past reply.after.log.past

submit-adds : (s : CoreState) (change : Change) (reply : LogStep) → submit_row s change ≡ Ok reply → Adds s reply
unfolding submit_row
submit-adds s change reply answer = subst (Adds s) (passed (submit_checks s change) (submit_reply s change) reply answer).1 (by (is_queued s.queue change))
  where
    by : (b : Bool) → LogGrows s.log.past (cond b s (queueing s change)).log.past
    by true = same_record s.log.past
    by false = change_adds s.log change

proposing-adds : (s : CoreState) (reply : LogStep) → proposing_row s ≡ Ok reply → Adds s reply
unfolding proposing_row
proposing-adds s reply answer =
    subst (Adds s) (passed (proposing_checks s) (proposing_reply s) reply answer).1 (proposal_adds s.log (proposed_value s) (proposal s))

proposed-adds : (s : CoreState) (p : Proposal) (reply : LogStep) → proposed_row s p ≡ Ok reply → Adds s reply
unfolding proposed_row
proposed-adds s p reply answer =
    subst (Adds s) (passed (proposed_checks s p) (proposed_reply s p) reply answer).1 (vote_adds s.log p.log p.value p.changes)

ballot-adds : (s : CoreState) (log epoch : ℕ) (value : Value) (signature : List ℕ) (reply : LogStep) → ballot_row s log epoch value signature ≡ Ok reply → Adds s reply
unfolding ballot_row
ballot-adds s log epoch value signature reply answer =
    subst (Adds s) (passed (ballot_checks s log epoch value signature) (ballot_reply s log value signature) reply answer).1 (ballot_adds s.log log value signature)

status-adds : (s : CoreState) (log epoch : ℕ) (value : Option Value) (signature : List ℕ) (reply : LogStep) → status_row s log epoch value signature ≡ Ok reply → Adds s reply
unfolding status_row
status-adds s log epoch value signature reply answer =
    subst (Adds s) (passed (status_checks s log epoch value signature) (status_reply s log value signature) reply answer).1
    (status_adds s.log log value (Some signature))

passing-adds : (s : CoreState) (reply : LogStep) → passing_row s ≡ Ok reply → Adds s reply
unfolding passing_row
passing-adds s reply answer = subst (Adds s) (passed (passing_checks s) (passing_reply s) reply answer).1 (state_adds s.log)

decision-adds : (s : CoreState) (d : Decision) (reply : LogStep) → decision_row s d ≡ Ok reply → Adds s reply
unfolding decision_row
decision-adds s d reply answer =
    subst (Adds s) (passed (decision_checks s d) (decision_reply s d) reply answer).1 (decision_adds s.log d.value d.changes (plain_votes d.votes))

skip-adds : (s : CoreState) (epoch : ℕ) (statuses : List LogStatus) (reply : LogStep) → skip_row s epoch statuses ≡ Ok reply → Adds s reply
unfolding skip_row
skip-adds s epoch statuses reply answer =
    subst (Adds s) (passed (skip_checks s epoch statuses) (skip_reply s statuses) reply answer).1 (skip_adds s.log (signed_statuses statuses))

confirm-adds : (s : CoreState) (asked : ConfirmQuestion) (reply : LogStep) → confirm_row s asked ≡ Ok reply → Adds s reply
unfolding confirm_row
confirm-adds s asked reply answer = subst (Adds s) (passed (confirm_checks s asked) (confirm_reply s s.log.newest asked) reply answer).1 (by s.log.newest)
  where
    by : (newest : Option Newest) → Adds s (confirm_reply s newest asked)
    by None = same_record s.log.past
    by (Some w) = confirm_adds s.log w asked.name

roll_note-adds : (s : CoreState) (a : Announced) (reply : LogStep) → roll_note_row s a ≡ Ok reply → Adds s reply
unfolding roll_note_row
roll_note-adds s a reply answer = subst (Adds s) (passed (roll_note_checks s a) (roll_note_reply s a) reply answer).1 (learn_adds s.log a)

rolling-adds : (s : CoreState) (key : LmsPublic) (reply : LogStep) → rolling_row s key ≡ Ok reply → Adds s reply
unfolding rolling_row
rolling-adds s key reply answer = subst (Adds s) (passed (rolling_checks s) (rolling_reply s key) reply answer).1 (roll_adds s.log (key_text key))

pub row-adds : (s : CoreState) (input : Input) (reply : LogStep) → row s input ≡ Ok reply → Adds s reply
row-adds s input reply answer = row-gives (Adds s) s (record {
  submit = submit-adds s;
  proposed = proposed-adds s;
  ballot = ballot-adds s;
  status = status-adds s;
  decision = decision-adds s;
  skip = skip-adds s;
  confirm = confirm-adds s;
  roll_note = roll_note-adds s;
  proposing = proposing-adds s;
  passing = passing-adds s;
}) (rolling-adds s) input reply answer

-- ---- what it signs

abbrev pub IsServedIn : RollBook → Blank → Type 0
IsServedIn book blank = IsServed book blank.due

-- what is due is what the book has for its text
abbrev pub IsDueOf : RollBook → Blank → Type 0
IsDueOf book blank = due_of book blank.due.text ≡ Some blank.due

each-served : (book : RollBook) (blanks : List Blank) → AllByRecursion (IsDueIn book) blanks → AllByRecursion (IsServedIn book) blanks
each-served book [] all = tt
each-served book (blank ∷ blanks) all = (due_is_served book all.0.0 blank.due all.0.1, each-served book blanks all.1)

each-due : (book : RollBook) (blanks : List Blank) → AllByRecursion (IsDueIn book) blanks → AllByRecursion (IsDueOf book) blanks
each-due book [] all = tt
each-due book (blank ∷ blanks) all =
    (ap (λ (text : List ℕ). due_of book text) (due_is_for book all.0.0 blank.due all.0.1) ∙ all.0.1, each-due book blanks all.1)

pub row-served : (s : CoreState) (input : Input) (reply : LogStep) → row s input ≡ Ok reply → AllByRecursion (IsServedIn reply.after.log.past.signed) reply.unsigned.blanks
row-served s input reply answer =
    each-served reply.after.log.past.signed reply.unsigned.blanks
    (composed-due reply.after.log.past.signed reply.after.signature_len reply.unsigned (row-composed s input reply answer))

pub row-due : (s : CoreState) (input : Input) (reply : LogStep) → row s input ≡ Ok reply → AllByRecursion (IsDueOf reply.after.log.past.signed) reply.unsigned.blanks
row-due s input reply answer =
    each-due reply.after.log.past.signed reply.unsigned.blanks
    (composed-due reply.after.log.past.signed reply.after.signature_len reply.unsigned (row-composed s input reply answer))
