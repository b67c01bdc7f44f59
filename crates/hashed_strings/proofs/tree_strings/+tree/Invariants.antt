use Rattle.std.proofs.Common.{◌-◌, ◌+◌, ◌*◌}
use Rattle.hashed_strings.proofs.tree_strings.+tree.Given as goal

abbrev pub decreases-put_tree : goal.decreases-put_tree
decreases-put_tree l = 2 * (256 - l.depth) + 1

abbrev pub decreases-put_node : goal.decreases-put_node
decreases-put_node l = 2 * (256 - l.depth)
