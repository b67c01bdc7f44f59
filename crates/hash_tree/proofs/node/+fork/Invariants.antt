use Rattle.std.proofs.Common.{◌-◌, ◌+◌, ◌*◌}
use Rattle.hash_tree.proofs.node.+fork.Given as goal

abbrev pub decreases-fork : goal.decreases-fork
decreases-fork g l = 2 * (256 - l.depth) + 1

abbrev pub decreases-parted : goal.decreases-parted
decreases-parted g l = 2 * (256 - l.depth)
