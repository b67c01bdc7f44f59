use Rattle.std.proofs.Common.{length}
use Rattle.tree_proof.proofs.check.+led_up.Given as goal

abbrev pub decreases-led_up : goal.decreases-led_up
decreases-led_up l = length l.steps.now
