use Rattle.std.proofs.Common.{length}
use Rattle.hashed_strings.proofs.log_tables.+put_ended.Given as goal

abbrev pub decreases-put_ended : goal.decreases-put_ended
decreases-put_ended l = length l.ended.now
