use Rattle.std.proofs.Common.{ap, ◌∙◌}
use Rattle.hash_tree.specs.Root.{root}
use Rattle.domain_table.specs.Tree.{tree_entries}
use Rattle.domain_table.specs.Rows.{data_in}
use Rattle.domain_table.proofs.Taking.{kept_tree}
use Rattle.domain_table.proofs.table.Table.root.Goals as goal

pub returns : goal.returns
returns c = c.root.ensures ∙ ap root (c.trie.ensures ∙ kept_tree (data_in c.self.inside.rows.entries) c.self.inside.trie c.self.inside.kept c.self.inside.waiting c.self.invariant ∙ ap tree_entries c.self.view_is)
