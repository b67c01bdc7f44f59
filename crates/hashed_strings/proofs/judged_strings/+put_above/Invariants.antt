use Rattle.std.proofs.Common.{length}
use Rattle.hashed_strings.proofs.judged_strings.+put_above.Given as goal

abbrev pub decreases-put_above : goal.decreases-put_above
decreases-put_above l = length l.steps.now
