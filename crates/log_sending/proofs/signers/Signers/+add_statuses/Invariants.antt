use Rattle.std.proofs.Common.{length}
use Rattle.log_sending.proofs.signers.Signers.+add_statuses.Given as goal

abbrev pub decreases-add_statuses : goal.decreases-add_statuses
decreases-add_statuses l = length l.statuses.now
