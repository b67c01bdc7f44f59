-- What is planned of an epoch: whether it ends with what is counted, and what its end takes.
use Rattle.std.specs.Prelude.{◌≡◌, ℕ, ◌≤◌, nat_lt, if◌then◌else◌, List, [], length, Option, Some, vec_capacity}
use Rattle.ar_statement.specs.Fields.{last_epoch}
use Rattle.ar_council.specs.Council.{Council}
use Rattle.vote_quorum.specs.Ballots.{Ballot}
use Rattle.vote_quorum.specs.Statuses.{Status}
use Rattle.domain_table.specs.Tables.{Table}
use Rattle.epoch_log.specs.Ending.{backs, excludes_all, own_table, own_vote}
use Rattle.epoch_log.specs.State.{LogState, ballots_of, epoch_of, reports_of}
use Rattle.epoch_log.specs.Told.{value_of}
use Rattle.epoch_log.specs.declared.ending.Decision.{Decision}
use Rattle.epoch_log.specs.declared.closing.Plan.{Plan}
use Rattle.epoch_log.specs.declared.closing.Plan.TheVariants as plans
use Rattle.epoch_log.specs.declared.closing.Verdict.{Verdict}
use Rattle.epoch_log.specs.declared.closing.Verdict.TheVariants as verdicts
use Rattle.epoch_log.specs.declared.entries.Voted.{Voted}

-- how the epoch ends, by the own vote, the counted ballots and the counted statuses
abbrev pub verdict_of : Council → Option Voted → List Ballot → List Status → Verdict
verdict_of council own ballots reports =
    if backs council.quorum ballots own then verdicts.Decided
    else if excludes_all council reports then verdicts.Skipped
    else verdicts.Open

-- the same, where the last epoch that a statement can name does not end
abbrev pub verdict_at : ℕ → Council → Option Voted → List Ballot → List Status → Verdict
verdict_at epoch council own ballots reports =
    if nat_lt epoch last_epoch then verdict_of council own ballots reports else verdicts.Open

-- A decision is that of this vote, with the table that was tried for it, and has room for so many votes.
pub record IsDecision (vote : Voted) (tried : Option Table) (room : ℕ) (d : Decision) : Type 0 where
  pub changes : d.changes.items ≡ vote.changes
  pub value : d.value ≡ value_of vote
  pub table : tried ≡ Some d.table
  pub none : d.votes.items ≡ []
  pub has_room : room ≤ vec_capacity d.votes

-- a decision is that of the own vote
abbrev pub IsOwnDecision : Option Voted → Option Table → ℕ → Decision → Type 0
IsOwnDecision own tried room d = (vote : Voted) × (own ≡ Some vote) × IsDecision vote tried room d

-- the plan is for what the verdict says
abbrev pub IsPlanFor : Verdict → Option Voted → Option Table → ℕ → List Status → Plan → Type 0
IsPlanFor verdict own tried room reports plans.Open = verdict ≡ verdicts.Open
IsPlanFor verdict own tried room reports (plans.Decided d) = (verdict ≡ verdicts.Decided) × IsOwnDecision own tried room d
IsPlanFor verdict own tried room reports (plans.Skipped statuses) = (verdict ≡ verdicts.Skipped) × (statuses.items ≡ reports)

-- the plan is for this own vote, with the table that was tried for it, and for these ballots and statuses
unfoldable pub IsPlan : Council → ℕ → Option Voted → Option Table → List Ballot → List Status → Plan → Type 0
IsPlan council epoch own tried ballots reports plan =
    IsPlanFor (verdict_at epoch council own ballots reports) own tried (length ballots) reports plan

-- the plan is for a log that stands so
abbrev pub IsPlanIn : LogState → Plan → Type 0
IsPlanIn s plan =
    IsPlan s.council (epoch_of s) (own_vote s.past.voted (epoch_of s)) (own_table s) (ballots_of s.votes) (reports_of s.statuses) plan
