use Rattle.std.proofs.Common.{◌-◌}
use Rattle.hash_tree.proofs.node.Node.+walk.Given as goal

abbrev pub decreases-walk : goal.decreases-walk
decreases-walk l = 256 - l.depth
