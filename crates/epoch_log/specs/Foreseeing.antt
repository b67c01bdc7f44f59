-- What would become of the epoch, told before the step that may end it is made.
use Rattle.std.specs.Prelude.{◌≡◌, ℕ, List, Option, Some, None}
use Rattle.std.specs.Option.{option_map}
use Rattle.ar_council.specs.Council.{Council}
use Rattle.epoch_log.specs.Ending.{own_vote, votes_for}
use Rattle.epoch_log.specs.Plans.{verdict_at}
use Rattle.epoch_log.specs.State.{CountedStatus, CountedVote, LogState, ballots_of, epoch_of, reports_of}
use Rattle.epoch_log.specs.Told.{value_of}
use Rattle.epoch_log.specs.declared.closing.Verdict.{Verdict}
use Rattle.epoch_log.specs.declared.closing.Verdict.TheVariants as verdicts
use Rattle.epoch_log.specs.declared.entries.Closing.{Closing}
use Rattle.epoch_log.specs.declared.entries.Closing.TheVariants as closings
use Rattle.epoch_log.specs.declared.entries.Newest.{Newest}
use Rattle.epoch_log.specs.declared.entries.Voted.{Voted}
use Rattle.epoch_log.specs.declared.foreseeing.Foreseen.{Foreseen}
use Rattle.epoch_log.specs.declared.foreseeing.Foreseen.TheVariants as foreseen

-- This is foreseen of a step: that the epoch goes on, that it ends as decided, where the newest decision is this one and
-- these are the changes of the own vote for it, or that it ends as skipped by these statuses.
abbrev pub IsForeseen : LogState × Closing → Foreseen → Type 0
IsForeseen step foreseen.Open = step.1 ≡ closings.Open
IsForeseen step (foreseen.Decided changes w) =
    (step.1 ≡ closings.Decided) × (step.0.newest ≡ Some w) × (option_map (λ v. v.changes) (own_vote step.0.past.voted w.epoch) ≡ Some changes)
IsForeseen step (foreseen.Skipped statuses) = step.1 ≡ closings.Skipped statuses

-- ---- by the verdict

-- the newest decision after the epoch ended as decided, by the own vote
abbrev pub newest_by : ℕ → Voted → List CountedVote → Newest
newest_by epoch v votes = record { epoch = epoch; base = v.base; root = v.root; votes = votes_for votes (value_of v) }

-- what is foreseen of an epoch by the verdict on it, with the own vote and what is counted
abbrev pub foretold_by : Verdict → ℕ → Option Voted → List CountedVote → List CountedStatus → Foreseen
foretold_by verdicts.Open epoch own votes statuses = foreseen.Open
foretold_by verdicts.Skipped epoch own votes statuses = foreseen.Skipped statuses
foretold_by verdicts.Decided epoch None votes statuses = foreseen.Open
foretold_by verdicts.Decided epoch (Some v) votes statuses = foreseen.Decided v.changes (newest_by epoch v votes)

-- what is foreseen where these are the own vote and what is counted
unfoldable pub foretold : Council → ℕ → Option Voted → List CountedVote → List CountedStatus → Foreseen
foretold council epoch own votes statuses =
    foretold_by (verdict_at epoch council own (ballots_of votes) (reports_of statuses)) epoch own votes statuses

-- the same of a log that stands so
abbrev pub foretold_in : LogState → Foreseen
foretold_in s = foretold s.council (epoch_of s) (own_vote s.past.voted (epoch_of s)) s.votes s.statuses
