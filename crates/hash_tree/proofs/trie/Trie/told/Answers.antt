use Rattle.std.proofs.Common.{subst}
use Rattle.hash_tree.specs.Entries.{HoldsDigests}
use Rattle.hash_tree.proofs.Kept.{keeps-digests}
use Rattle.hash_tree.proofs.trie.Trie.told.Goals as goal

pub returns : goal.returns
returns c = subst HoldsDigests c.self.view_is (keeps-digests c.self.inside.top 0 _ c.self.invariant)
