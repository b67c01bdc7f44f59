use Rattle.std.proofs.Common.{length}
use Rattle.log_sending.proofs.signers.Signers.+add_votes.Given as goal

abbrev pub decreases-add_votes : goal.decreases-add_votes
decreases-add_votes l = length l.votes.now
