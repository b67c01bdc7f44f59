use Rattle.std.proofs.Common.{length}
use Rattle.log_sending.proofs.own_places.+add_own_votes.Given as goal

abbrev pub decreases-add_own_votes : goal.decreases-add_own_votes
decreases-add_own_votes l = length l.votes.now
