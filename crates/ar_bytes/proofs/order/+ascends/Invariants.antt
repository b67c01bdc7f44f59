use Rattle.std.proofs.Common.{length}
use Rattle.ar_bytes.proofs.order.+ascends.Given as goal

abbrev pub decreases-ascends : goal.decreases-ascends
decreases-ascends l = length l.numbers.now
