use Rattle.std.proofs.Common.{◌-◌}
use Rattle.tree_proof.proofs.make.+walk.Given as goal

abbrev pub decreases-walk : goal.decreases-walk
decreases-walk l = 256 - l.depth
