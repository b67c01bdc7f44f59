use Rattle.std.proofs.Common.{length}
use Rattle.log_sending.proofs.own_places.+statuses_len.Given as goal

abbrev pub decreases-statuses_len : goal.decreases-statuses_len
decreases-statuses_len l = length l.statuses.now
