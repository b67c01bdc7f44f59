use Rattle.std.proofs.Common.{◌≡◌, sym, ap, ◌∙◌}
use Rattle.std.specs.FinMap.{entries}
use Rattle.std.proofs.lemmas.Result.{IfOk-weaker}
use Rattle.hash_tree.specs.Entries.{entries_of}
use Rattle.domain_table.specs.Tree.{tree_entries}
use Rattle.domain_table.specs.Rows.{data_in, marked, marks_of}
use Rattle.domain_table.proofs.RowLists.{tree_rows}
use Rattle.domain_table.proofs.table.Table.entries.Goals as goal

pub returns : goal.returns
returns c =
    IfOk-weaker c.list_entries.result (λ list. list.items ≡ entries (entries_of (marked (marks_of (data_in c.self.inside.rows.entries))))) (λ list. list.items ≡ entries (tree_entries c.args.self.now))
    (λ list is. is
    ∙ ap entries (sym (tree_rows (data_in c.self.inside.rows.entries) c.self.invariant.are))
    ∙ ap (λ t. entries (tree_entries t)) c.self.view_is)
    c.list_entries.ensures
