use Rattle.std.proofs.Common.{◌≡◌, take}
use Rattle.epoch_log.specs.Calls.{votes_seen}
use Rattle.epoch_log.specs.Telling.{votes_in}
use Rattle.epoch_log.proofs.deciding.texts.Given as goal

-- the votes so far
abbrev pub invariant-loop-vote : goal.invariant-loop-vote
invariant-loop-vote l = l.list.items ≡ votes_seen l.epoch l.value (votes_in (take l.vote-index l.votes))
