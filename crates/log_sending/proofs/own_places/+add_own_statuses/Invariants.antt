use Rattle.std.proofs.Common.{length}
use Rattle.log_sending.proofs.own_places.+add_own_statuses.Given as goal

abbrev pub decreases-add_own_statuses : goal.decreases-add_own_statuses
decreases-add_own_statuses l = length l.statuses.now
