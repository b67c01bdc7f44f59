use Rattle.std.proofs.Common.{◌-◌, ◌+◌, ◌*◌}
use Rattle.hash_tree.proofs.roots.+digest.Given as goal

abbrev pub decreases-put_digest : goal.decreases-put_digest
decreases-put_digest l = 2 * (256 - l.depth) + 1

abbrev pub decreases-put_node : goal.decreases-put_node
decreases-put_node l = 2 * (256 - l.depth)
