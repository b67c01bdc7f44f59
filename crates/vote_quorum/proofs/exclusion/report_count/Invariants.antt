use Rattle.std.proofs.Common.{◌≡◌, ◌≤◌, take}
use Rattle.vote_quorum.specs.Statuses.{report_count}
use Rattle.vote_quorum.proofs.exclusion.report_count.Given as goal

-- the reports so far
abbrev pub invariant-loop-ballot : goal.invariant-loop-ballot
invariant-loop-ballot l = (l.count ≤ l.ballot-index) × (l.count ≡ report_count l.root (take l.ballot-index l.statuses))
