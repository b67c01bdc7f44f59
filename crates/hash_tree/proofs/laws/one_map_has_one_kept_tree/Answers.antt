use Rattle.hash_tree.proofs.Same.{same}
use Rattle.hash_tree.proofs.laws.one_map_has_one_kept_tree.Goals as goal

pub returns : goal.returns
returns c = same
