use Rattle.std.proofs.Common.{ap, ◌∙◌}
use Rattle.hash_tree.specs.Root.{root}
use Rattle.hash_tree.proofs.Kept.{digest-kept}
use Rattle.hash_tree.proofs.trie.Trie.root.Goals as goal

pub returns : goal.returns
returns c = c.digest.ensures ∙ digest-kept c.self.inside.top 0 _ c.self.invariant ∙ ap root c.self.view_is
