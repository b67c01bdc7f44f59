use Rattle.std.proofs.Common.{◌∙◌}
use Rattle.hash_tree.proofs.Kept.{keeps-kept, keeps-map}
use Rattle.hash_tree.proofs.trie.Trie.copy.Goals as goal

pub invariant_of-result : goal.invariant_of-result
invariant_of-result c = keeps-kept c.in_ok-top.top 0 _ (c.in_ok-top.ensures 0 _ c.self.invariant)

pub returns : goal.returns
returns c = keeps-map c.in_ok-top.top 0 _ (c.in_ok-top.ensures 0 _ c.self.invariant) ∙ c.self.view_is
