use Rattle.std.proofs.Common.{◌≡◌, ◌≤◌, take}
use Rattle.vote_quorum.specs.Numbers.{distinct_count}
use Rattle.vote_quorum.proofs.distinct.distinct_count.Given as goal

abbrev pub invariant-loop-i : goal.invariant-loop-i
invariant-loop-i l = (l.count ≤ l.i) × (l.count ≡ distinct_count (take l.i l.numbers))
