-- The entries are those of the table's tree, in their order.
use Rattle.std.proofs.Common.{◌∙◌, sym, subst}
use Rattle.domain_table.specs.Tree.{tree_entries}
use Rattle.hash_tree.specs.Entries.{HasAscendingKeys}
use Rattle.hash_tree.proofs.Few.{ascending-entries}
use Rattle.hashed_strings.proofs.TreeLists.{tree-and}
use Rattle.hashed_strings.proofs.table_strings.strings_told.Goals as goal

pub put_tree-requires-clause-ascending : goal.put_tree-requires-clause-ascending
put_tree-requires-clause-ascending c =
    subst HasAscendingKeys (sym (c.deref.ensures.value ∙ c.in_ok-entries.ensures)) (ascending-entries (tree_entries c.args.table.now))

pub returns : goal.returns
returns c =
    tree-and c.new-strings.result.items c.put_tree.new.strings.items c.put_names.new.strings.items _ c.deref.result.now (tree_entries c.args.table.now)
    c.new-strings.ensures.items (c.deref.ensures.value ∙ c.in_ok-entries.ensures) c.in_ok-put_tree.ensures c.in_ok-put_names.ensures
