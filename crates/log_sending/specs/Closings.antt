-- What follows where an epoch ends: the queue that is kept, the messages that tell it, and the epoch that ended.
use Rattle.std.specs.Prelude.{ℕ, List, [], ◌∷◌, filter, length, Option, Some, None}
use Rattle.std.specs.Result.{is_ok}
use Rattle.ar_cert.specs.Changes.{Change}
use Rattle.ar_message.specs.Messages.{message_text}
use Rattle.ar_message.specs.declared.address.Address.TheVariants.{Logs}
use Rattle.ar_message.specs.declared.message.Message.{Message}
use Rattle.ar_message.specs.declared.message.Message.TheVariants.{Decision, SkipNote}
use Rattle.domain_table.specs.Applying.{judge}
use Rattle.epoch_log.specs.Calls.{own_status_text, own_vote_text}
use Rattle.epoch_log.specs.Ending.{own_vote}
use Rattle.epoch_log.specs.State.{CountedStatus, LogState, epoch_of, newest_value, table_of}
use Rattle.epoch_log.specs.declared.entries.Closing.{Closing}
use Rattle.epoch_log.specs.declared.entries.Closing.TheVariants as closings
use Rattle.epoch_log.specs.declared.entries.Newest.{Newest}
use Rattle.epoch_log.specs.declared.entries.Voted.{Voted}
use Rattle.log_sending.specs.Sending.{DraftMessage, own_statuses, own_votes, sent_statuses, sent_votes}

-- ---- the queue

-- the changes of a queue that would be accepted in the epoch that begins, each judged alone on its table
abbrev pub still_wanted : LogState → List Change → List Change
still_wanted after queue = filter (λ change. is_ok (judge (table_of after) (epoch_of after) change)) queue

-- a decided epoch leaves of the queue what is still wanted, and a skipped one leaves it whole
abbrev pub queue_after : Closing → LogState → List Change → List Change
queue_after closings.Open after queue = queue
queue_after closings.Decided after queue = still_wanted after queue
queue_after (closings.Skipped statuses) after queue = queue

-- ---- what ended

-- the epoch that ended, with the root that was decided
abbrev pub ended_by : Closing → ℕ → Option Newest → Option (ℕ × Option (List ℕ))
ended_by closings.Open epoch newest = None
ended_by closings.Decided epoch None = None
ended_by closings.Decided epoch (Some w) = Some (epoch, Some w.root)
ended_by (closings.Skipped statuses) epoch newest = Some (epoch, None)

-- ---- what is told

-- the changes of a vote
abbrev pub changes_of_vote : Option Voted → List Change
changes_of_vote None = []
changes_of_vote (Some v) = v.changes

-- a decision with all votes that are kept of it
abbrev pub decision_of : ℕ → Newest → List Change → Message
decision_of len w changes = Decision w.epoch w.base w.root changes (sent_votes len w.votes)

-- it goes to all logs; where the log's own ballot was counted at once, its signature is due
abbrev pub decision_draft : ℕ → List ℕ → Newest → List Change → DraftMessage
decision_draft len text w changes = record {
  to = Logs;
  message = decision_of len w changes;
  own = own_votes len text (length (message_text (decision_of len w changes))) w.votes;
}

-- a skip with all statuses that were counted
abbrev pub skip_of : ℕ → ℕ → List CountedStatus → Message
skip_of len epoch statuses = SkipNote epoch (sent_statuses len statuses)

-- it goes to all logs; where the log's own status was counted at once, its signature is due
abbrev pub skip_draft : ℕ → List ℕ → ℕ → List CountedStatus → DraftMessage
skip_draft len text epoch statuses = record {
  to = Logs;
  message = skip_of len epoch statuses;
  own = own_statuses len text (length (message_text (skip_of len epoch statuses))) statuses;
}

-- what tells of the newest decision, which has the changes that the log voted for
abbrev pub decision_drafts : ℕ → LogState → LogState → Option Newest → List DraftMessage
decision_drafts len before after None = []
decision_drafts len before after (Some w) =
    decision_draft len (own_vote_text before (newest_value w)) w (changes_of_vote (own_vote after.past.voted w.epoch)) ∷ []

-- what the closing rule sends, where it leaves the log like this behind the epoch in which it stood
abbrev pub closing_drafts : Closing → ℕ → LogState → LogState → List DraftMessage
closing_drafts closings.Open len before after = []
closing_drafts closings.Decided len before after = decision_drafts len before after after.newest
closing_drafts (closings.Skipped statuses) len before after = skip_draft len (own_status_text before) (epoch_of before) statuses ∷ []
