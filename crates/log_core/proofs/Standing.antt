-- Whatever a log is asked, it stays the log with its number, of the same council.
use Rattle.std.proofs.Common.{◌≡◌, ℕ, ◌+◌, List, [], ◌∷◌, refl, subst, Bool, true, false, cond, Option, Some, None}
use Rattle.std.specs.Prelude.{Ok, map}
use Rattle.ar_cert.specs.Changes.{Change}
use Rattle.ar_message.specs.declared.lists.LogStatus.{LogStatus}
use Rattle.lms_tree.specs.declared.public_key.LmsPublic.{LmsPublic}
use Rattle.party_keys.specs.Learning.{Announced}
use Rattle.vote_quorum.specs.declared.value.Value.{Value}
use Rattle.epoch_log.specs.Calls.{after_status_seen, casting, counting_own, counting_status, counting_vote, decision_seen, is_turn, own_value, proposing, seeing, stating, statuses_seen, vote_of}
use Rattle.epoch_log.specs.Ending.{closed, closed_by, closed_by_statuses, decided, excludes_all, has_quorum, may_end, own_vote, skipped, votes_for}
use Rattle.epoch_log.specs.State.{LogState, epoch_of, reports_of}
use Rattle.epoch_log.specs.Told.{value_of}
use Rattle.epoch_log.specs.declared.entries.Closing.{Closing}
use Rattle.epoch_log.specs.declared.entries.Closing.TheVariants as closings
use Rattle.epoch_log.specs.declared.entries.Newest.{Newest}
use Rattle.epoch_log.specs.declared.entries.Voted.{Voted}
use Rattle.party_keys.specs.Seen.{seen_of}
use Rattle.ar_council.specs.Values.{status_claim, vote_claim}
use Rattle.ar_statement.specs.declared.text.SeenText.{SeenText}
use Rattle.ar_statement.specs.Claims.{log_party}
use Rattle.log_core.specs.Balloted.{ballot_checks, ballot_reply, ballot_row}
use Rattle.log_sending.specs.Checks.{Check}
use Rattle.log_core.specs.Steps.{given}
use Rattle.log_core.specs.Confirming.{ConfirmQuestion, confirm_checks, confirm_reply, confirm_row}
use Rattle.log_core.specs.Decided.{Decision, decision_checks, decision_reply, decision_row, plain_votes}
use Rattle.log_core.specs.Learning.{roll_note_checks, roll_note_reply, roll_note_row}
use Rattle.log_core.specs.Passing.{passing_checks, passing_reply, passing_row}
use Rattle.log_core.specs.Proposed.{Proposal, proposed_checks, proposed_reply, proposed_row}
use Rattle.log_core.specs.Proposing.{proposal, proposed_value, proposing_checks, proposing_reply, proposing_row}
use Rattle.log_core.specs.Rolling.{rolling_checks, rolling_reply, rolling_row}
use Rattle.log_core.specs.Row.{row}
use Rattle.log_core.specs.Skipped.{signed_statuses, skip_checks, skip_reply, skip_row}
use Rattle.log_core.specs.State.{LogAnswer, CoreState, Input, LogStep}
use Rattle.log_core.specs.Stated.{status_checks, status_reply, status_row}
use Rattle.log_sending.specs.Queued.{is_queued}
use Rattle.log_core.specs.Submit.{queueing, submit_checks, submit_reply, submit_row}
use Rattle.log_core.proofs.EachRow.{row-gives}
use Rattle.log_core.proofs.Passed.{passed}

-- one is the same log as another: its number is, and its council
abbrev IsSame : LogState → LogState → Type 0
IsSame s later = (later.me ≡ s.me) × (later.council ≡ s.council)

-- a reply leaves the log the same
abbrev Stays : CoreState → LogStep → Type 0
Stays s reply = IsSame s.log reply.after.log

-- so does a row, where it answers
abbrev StaysBy : CoreState → LogAnswer → Type 0
StaysBy s answer = (reply : LogStep) → answer ≡ Ok reply → Stays s reply

-- ---- the closing rule

statuses-same : (s : LogState) → IsSame s (closed_by_statuses s).0
statuses-same s = by (excludes_all s.council (reports_of s.statuses))
  where
    by : (b : Bool) → IsSame s (cond {A = LogState × Closing} b (skipped s (reports_of s.statuses), closings.Skipped s.statuses) (s, closings.Open)).0
    by true = (refl, refl)
    by false = (refl, refl)

votes-same : (s : LogState) (own : Option Voted) → IsSame s (closed_by s own).0
votes-same s None = statuses-same s
votes-same s (Some v) = by (has_quorum s v)
  where
    by : (b : Bool) → IsSame s (cond {A = LogState × Closing} b (decided s v.changes (value_of v) (votes_for s.votes (value_of v)), closings.Decided) (closed_by_statuses s)).0
    by true = (refl, refl)
    by false = statuses-same s

rule-same : (s : LogState) → IsSame s (closed s).0
unfolding closed
rule-same s = by (may_end s.past)
  where
    by : (b : Bool) → IsSame s (cond {A = LogState × Closing} b (closed_by s (own_vote s.past.voted (epoch_of s))) (s, closings.Open)).0
    by true = votes-same s (own_vote s.past.voted (epoch_of s))
    by false = (refl, refl)

-- ---- each row

given-stays : (s : CoreState) (checks : List Check) (reply : LogStep) → Stays s reply → StaysBy s (given checks reply)
given-stays s checks reply stays r answer = subst (Stays s) (passed checks reply r answer).1 stays

proposing-stays : (s : CoreState) → StaysBy s (proposing_row s)
unfolding proposing_row
proposing-stays s =
    let value : Value = proposed_value s in
    given-stays s (proposing_checks s) (proposing_reply s)
    (rule-same (counting_own (casting (proposing s.log value) (vote_of s.log value (proposal s))) value))

passing-stays : (s : CoreState) → StaysBy s (passing_row s)
unfolding passing_row
passing-stays s = given-stays s (passing_checks s) (passing_reply s) (by (is_turn s.log.council s.log.me (epoch_of s.log + 1)))
  where
    more : List SeenText
    more = seen_of (log_party s.log.me) (status_claim s.log.me (epoch_of s.log) (own_value s.log)) ∷ []

    by : (b : Bool) → IsSame s.log (cond {A = LogState × Closing} b (after_status_seen (stating s.log) s.log.me (own_value s.log) None) (stating s.log, closings.Open)).0
    by true = rule-same (counting_status (seeing (stating s.log) more) (s.log.me, own_value s.log, None))
    by false = (refl, refl)

rolling-stays : (s : CoreState) (key : LmsPublic) → StaysBy s (rolling_row s key)
unfolding rolling_row
rolling-stays s key = given-stays s (rolling_checks s) (rolling_reply s key) (refl, refl)

submit-stays : (s : CoreState) (change : Change) → StaysBy s (submit_row s change)
unfolding submit_row
submit-stays s change = given-stays s (submit_checks s change) (submit_reply s change) (by (is_queued s.queue change))
  where
    by : (b : Bool) → IsSame s.log (cond b s (queueing s change)).log
    by true = (refl, refl)
    by false = (refl, refl)

proposed-stays : (s : CoreState) (p : Proposal) → StaysBy s (proposed_row s p)
unfolding proposed_row
proposed-stays s p = given-stays s (proposed_checks s p) (proposed_reply s p) (refl, refl)

ballot-stays : (s : CoreState) (log epoch : ℕ) (value : Value) (signature : List ℕ) → StaysBy s (ballot_row s log epoch value signature)
unfolding ballot_row
ballot-stays s log epoch value signature =
    let more : List SeenText = seen_of (log_party log) (vote_claim log (epoch_of s.log) value) ∷ [] in
    given-stays s (ballot_checks s log epoch value signature) (ballot_reply s log value signature)
    (rule-same (counting_vote (seeing s.log more) (log, value, Some signature)))

status-stays : (s : CoreState) (log epoch : ℕ) (value : Option Value) (signature : List ℕ) → StaysBy s (status_row s log epoch value signature)
unfolding status_row
status-stays s log epoch value signature =
    let more : List SeenText = seen_of (log_party log) (status_claim log (epoch_of s.log) value) ∷ [] in
    given-stays s (status_checks s log epoch value signature) (status_reply s log value signature)
    (rule-same (counting_status (seeing s.log more) (log, value, Some signature)))

decision-stays : (s : CoreState) (d : Decision) → StaysBy s (decision_row s d)
unfolding decision_row
decision-stays s d = given-stays s (decision_checks s d) (decision_reply s d) (by (may_end s.log.past))
  where
    more : List SeenText
    more = decision_seen s.log d.value d.changes (plain_votes d.votes)

    by : (b : Bool)
        → IsSame s.log (cond b (decided (seeing s.log more) d.changes d.value (map (λ (v : ℕ × List ℕ). (v.0, Some v.1)) (plain_votes d.votes))) (seeing s.log more))
    by true = (refl, refl)
    by false = (refl, refl)

skip-stays : (s : CoreState) (epoch : ℕ) (statuses : List LogStatus) → StaysBy s (skip_row s epoch statuses)
unfolding skip_row
skip-stays s epoch statuses = given-stays s (skip_checks s epoch statuses) (skip_reply s statuses) (by (may_end s.log.past))
  where
    more : List SeenText
    more = statuses_seen (epoch_of s.log) (signed_statuses statuses)

    by : (b : Bool) → IsSame s.log (cond b (skipped (seeing s.log more) (reports_of (signed_statuses statuses))) (seeing s.log more))
    by true = (refl, refl)
    by false = (refl, refl)

confirm-stays : (s : CoreState) (asked : ConfirmQuestion) → StaysBy s (confirm_row s asked)
unfolding confirm_row
confirm-stays s asked = given-stays s (confirm_checks s asked) (confirm_reply s s.log.newest asked) (by s.log.newest)
  where
    by : (newest : Option Newest) → Stays s (confirm_reply s newest asked)
    by None = (refl, refl)
    by (Some w) = (refl, refl)

roll_note-stays : (s : CoreState) (a : Announced) → StaysBy s (roll_note_row s a)
unfolding roll_note_row
roll_note-stays s a = given-stays s (roll_note_checks s a) (roll_note_reply s a) (refl, refl)

pub row-stays : (s : CoreState) (input : Input) → StaysBy s (row s input)
row-stays s input = row-gives (Stays s) s (record {
  submit = submit-stays s;
  proposed = proposed-stays s;
  ballot = ballot-stays s;
  status = status-stays s;
  decision = decision-stays s;
  skip = skip-stays s;
  confirm = confirm-stays s;
  roll_note = roll_note-stays s;
  proposing = proposing-stays s;
  passing = passing-stays s;
}) (rolling-stays s) input
