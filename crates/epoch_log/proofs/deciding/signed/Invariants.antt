use Rattle.std.proofs.Common.{◌≡◌, ◌++◌}
use Rattle.std.specs.Vec.Iter.{into_iter_items}
use Rattle.epoch_log.specs.Calls.{signed_votes}
use Rattle.epoch_log.specs.Telling.{votes_in}
use Rattle.epoch_log.proofs.deciding.signed.Given as goal

-- what is listed and what is left are the votes
abbrev pub invariant-loop-vote : goal.invariant-loop-vote
invariant-loop-vote l =
    l.list.items ++ signed_votes (votes_in (into_iter_items l.vote-iterator)) ≡ signed_votes (votes_in (into_iter_items l.initial.vote-iterator))
