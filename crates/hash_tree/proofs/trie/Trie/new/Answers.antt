use Rattle.std.proofs.Common.{[], refl}
use Rattle.hash_tree.proofs.Kept.{empty-kept}
use Rattle.hash_tree.proofs.Maps.{entries-entries_of}
use Rattle.hash_tree.proofs.trie.Trie.new.Goals as goal

pub invariant_of-result : goal.invariant_of-result
invariant_of-result c = empty-kept 0 _ (entries-entries_of [] refl)
