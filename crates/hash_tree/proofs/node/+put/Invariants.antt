use Rattle.std.proofs.Common.{◌-◌, ◌+◌, ◌*◌}
use Rattle.hash_tree.proofs.node.+put.Given as goal

abbrev pub decreases-Node::put : goal.decreases-Node::put
decreases-Node::put g l = 3 * (256 - l.depth) + 2

abbrev pub decreases-Branch::put : goal.decreases-Branch::put
decreases-Branch::put g l = 3 * (256 - l.depth) + 1

abbrev pub decreases-Branch::put_below : goal.decreases-Branch::put_below
decreases-Branch::put_below g l = 3 * (256 - l.depth)
