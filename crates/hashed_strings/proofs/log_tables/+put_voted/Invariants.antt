use Rattle.std.proofs.Common.{length}
use Rattle.hashed_strings.proofs.log_tables.+put_voted.Given as goal

abbrev pub decreases-put_voted : goal.decreases-put_voted
decreases-put_voted l = length l.voted.now
