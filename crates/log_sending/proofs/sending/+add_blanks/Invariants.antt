use Rattle.std.proofs.Common.{length}
use Rattle.log_sending.proofs.sending.+add_blanks.Given as goal

abbrev pub decreases-add_blanks : goal.decreases-add_blanks
decreases-add_blanks l = length l.places.now
