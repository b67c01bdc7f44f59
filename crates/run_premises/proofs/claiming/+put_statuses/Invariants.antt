use Rattle.std.proofs.Common.{length}
use Rattle.run_premises.proofs.claiming.+put_statuses.Given as goal

abbrev pub decreases-put_statuses : goal.decreases-put_statuses
decreases-put_statuses l = length l.statuses.now
