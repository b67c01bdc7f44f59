use Rattle.std.proofs.Common.{◌≡◌, ◌++◌}
use Rattle.std.specs.Vec.Iter.{into_iter_items}
use Rattle.epoch_log.specs.Telling.{votes_in}
use Rattle.log_core.specs.Decided.{plain_votes}
use Rattle.log_core.proofs.deciding.plain_votes.Given as goal

-- what is listed and what is left are the votes
abbrev pub invariant-loop-vote : goal.invariant-loop-vote
invariant-loop-vote l =
    votes_in l.list.items ++ plain_votes (into_iter_items l.vote-iterator) ≡ plain_votes (into_iter_items l.initial.vote-iterator)
