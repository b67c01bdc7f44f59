use Rattle.std.proofs.Common.{length}
use Rattle.log_sending.proofs.walking.Walker.+over.Given as goal

abbrev pub decreases-over : goal.decreases-over
decreases-over l = length l.queue.now
