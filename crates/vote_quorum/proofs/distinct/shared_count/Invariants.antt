use Rattle.std.proofs.Common.{◌≡◌, ◌≤◌, take}
use Rattle.vote_quorum.specs.Numbers.{shared_count}
use Rattle.vote_quorum.proofs.distinct.shared_count.Given as goal

abbrev pub invariant-loop-i : goal.invariant-loop-i
invariant-loop-i l = (l.count ≤ l.i) × (l.count ≡ shared_count (take l.i l.numbers) l.others)
