-- How an epoch ends: when the counted ballots decide it, when the counted statuses skip it, and what stands then.
use Rattle.std.specs.Prelude.{ℕ, ◌+◌, ◌-◌, ◌==◌, Bool, false, ◌&&◌, nat_le, nat_lt, if◌then◌else◌, List, [], ◌∷◌, ◌++◌, map, filter, find, length, Option, Some, None, option_and_then}
use Rattle.std.specs.List.{list_all}
use Rattle.ar_statement.specs.Fields.{last_epoch}
use Rattle.ar_cert.specs.Changes.{Change}
use Rattle.domain_table.specs.Applying.{apply}
use Rattle.domain_table.specs.Tables.{Table}
use Rattle.vote_quorum.specs.Ballots.{Ballot, is_same, log_count}
use Rattle.vote_quorum.specs.Statuses.{Status, report_count}
use Rattle.vote_quorum.specs.declared.value.Value.{Value}
use Rattle.ar_council.specs.Council.{Council}
use Rattle.epoch_log.specs.Record.{LogRecord, current}
use Rattle.epoch_log.specs.State.{CountedVote, LogState, ballots_of, epoch_of, reports_of, table_of}
use Rattle.epoch_log.specs.Told.{value_of}
use Rattle.epoch_log.specs.declared.entries.Closing.{Closing}
use Rattle.epoch_log.specs.declared.entries.Closing.TheVariants as closings
use Rattle.epoch_log.specs.declared.entries.How.{How}
use Rattle.epoch_log.specs.declared.entries.How.TheVariants.{Decided, Skipped}
use Rattle.epoch_log.specs.declared.entries.Voted.{Voted}

-- ---- an epoch ends

-- whether the current epoch may end: the last that a statement can name does not
abbrev pub may_end : LogRecord → Bool
may_end past = nat_lt (current past.ended) last_epoch

-- the record after the current epoch ended so
abbrev pub with_ending : LogRecord → How → LogRecord
with_ending past how = record past { ended = past.ended ++ record { epoch = current past.ended; how = how } ∷ [] }

-- The current epoch ended as decided, by votes for the value: they are the newest, and the counts are dropped.
abbrev pub decided : LogState → List Change → Value → List (ℕ × Option (List ℕ)) → LogState
decided s changes value votes = record {
  me = s.me;
  council = s.council;
  past = with_ending s.past (Decided changes value.root);
  votes = [];
  statuses = [];
  newest = Some (record { epoch = epoch_of s; base = value.base; root = value.root; votes = votes });
}

-- The current epoch ended as skipped: the newest decision stays, and the counts are dropped.
abbrev pub skipped : LogState → List Status → LogState
skipped s statuses = record {
  me = s.me;
  council = s.council;
  past = with_ending s.past (Skipped statuses);
  votes = [];
  statuses = [];
  newest = s.newest;
}

-- the same, unless the epoch is the last that a statement can name
abbrev pub decided_if : LogState → List Change → Value → List (ℕ × Option (List ℕ)) → LogState
decided_if s changes value votes = if may_end s.past then decided s changes value votes else s

abbrev pub skipped_if : LogState → List Status → LogState
skipped_if s statuses = if may_end s.past then skipped s statuses else s

-- ---- the closing rule

-- the log's own vote of an epoch
abbrev pub own_vote : List Voted → ℕ → Option Voted
own_vote voted epoch = find (λ v. v.epoch == epoch) voted

-- the table to which the changes of the own vote of the current epoch lead, where there is one
abbrev pub own_table : LogState → Option Table
own_table s = option_and_then (λ v. apply (table_of s) (epoch_of s) v.changes) (own_vote s.past.voted (epoch_of s))

-- the counted ballots for a value, as logs with their signatures
abbrev pub votes_for : List CountedVote → Value → List (ℕ × Option (List ℕ))
votes_for votes value = map (λ v. (v.0, v.2)) (filter (λ v. is_same v.1 value) votes)

-- whether a root that is reported so often, and the logs without a status, and two that may lie, are no quorum
abbrev pub falls_short : Council → List Status → ℕ → Bool
falls_short council statuses count = nat_lt (count + (council.logs - length statuses) + 2) council.quorum

-- whether a reported root is excluded; where none is reported, whether a root that none reports is
abbrev pub is_excluded : Council → List Status → Option Value → Bool
is_excluded council statuses None = falls_short council statuses 0
is_excluded council statuses (Some value) = falls_short council statuses (report_count value.root statuses)

-- whether the statuses exclude each root, reported or not
abbrev pub excludes_all : Council → List Status → Bool
excludes_all council statuses = falls_short council statuses 0 && list_all (λ s. is_excluded council statuses s.1) statuses

-- without a quorum for the own vote: the epoch is skipped where the counted statuses exclude each root
abbrev pub closed_by_statuses : LogState → LogState × Closing
closed_by_statuses s =
    if excludes_all s.council (reports_of s.statuses)
    then (skipped s (reports_of s.statuses), closings.Skipped s.statuses)
    else (s, closings.Open)

-- whether the ballots are a quorum for what the own vote is for
abbrev pub backs : ℕ → List Ballot → Option Voted → Bool
backs quorum ballots None = false
backs quorum ballots (Some v) = nat_le quorum (log_count ballots (value_of v))

-- whether the counted ballots are
abbrev pub has_quorum : LogState → Voted → Bool
has_quorum s v = backs s.council.quorum (ballots_of s.votes) (Some v)

-- the epoch is decided where there is an own vote and a quorum for it
abbrev pub closed_by : LogState → Option Voted → LogState × Closing
closed_by s None = closed_by_statuses s
closed_by s (Some v) =
    if has_quorum s v
    then (decided s v.changes (value_of v) (votes_for s.votes (value_of v)), closings.Decided)
    else closed_by_statuses s

-- The closing rule: where the log has voted in the current epoch and at least a quorum of logs is counted for what it
-- voted for, the epoch ends as decided with its own changes; else, where the counted statuses exclude each root, it
-- ends as skipped; else it goes on.
unfoldable pub closed : LogState → LogState × Closing
closed s = if may_end s.past then closed_by s (own_vote s.past.voted (epoch_of s)) else (s, closings.Open)
