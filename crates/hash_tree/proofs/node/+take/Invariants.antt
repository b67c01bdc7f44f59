use Rattle.std.proofs.Common.{◌-◌, ◌+◌, ◌*◌}
use Rattle.hash_tree.proofs.node.+take.Given as goal

abbrev pub decreases-Node::take : goal.decreases-Node::take
decreases-Node::take g l = 3 * (256 - l.depth) + 2

abbrev pub decreases-Branch::take : goal.decreases-Branch::take
decreases-Branch::take g l = 3 * (256 - l.depth) + 1

abbrev pub decreases-Branch::take_below : goal.decreases-Branch::take_below
decreases-Branch::take_below g l = 3 * (256 - l.depth)
