use Rattle.std.proofs.Common.{length}
use Rattle.log_sending.proofs.own_places.+votes_len.Given as goal

abbrev pub decreases-votes_len : goal.decreases-votes_len
decreases-votes_len l = length l.votes.now
