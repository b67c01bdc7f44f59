use Rattle.std.proofs.Common.{◌≡◌, ◌+◌, ◌≤◌, ◌++◌, length, vec_len, vec_capacity}
use Rattle.std.specs.Vec.Iter.{into_iter_items, into_iter_len}
use Rattle.epoch_log.specs.Ending.{votes_for}
use Rattle.epoch_log.proofs.finishing.votes_for.Given as goal

-- what is listed and what is left are the votes, and there is room for what is left
abbrev pub invariant-loop-log : goal.invariant-loop-log
invariant-loop-log l =
    (l.votes.items ++ votes_for (into_iter_items l.log-iterator) l.value ≡ votes_for (into_iter_items l.initial.log-iterator) l.value)
    × (into_iter_len l.log-iterator ≡ length (into_iter_items l.log-iterator))
    × (vec_len l.votes + length (into_iter_items l.log-iterator) ≤ vec_capacity l.votes)
