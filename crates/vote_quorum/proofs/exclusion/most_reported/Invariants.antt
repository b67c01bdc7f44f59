use Rattle.std.proofs.Common.{◌≤◌, length, take}
use Rattle.vote_quorum.proofs.Reported.{IsFirstIn}
use Rattle.vote_quorum.proofs.exclusion.most_reported.Given as goal

-- the first of the roots so far
abbrev pub invariant-loop-ballot : goal.invariant-loop-ballot
invariant-loop-ballot l = IsFirstIn l.statuses (take l.ballot-index l.statuses) l.first l.most × (l.most ≤ length l.statuses)
