use Rattle.std.proofs.Common.{◌≡◌, ap, ◌∙◌, subst}
use Rattle.std.specs.Prelude.{IfOk}
use Rattle.std.specs.FinMap.{entries}
use Rattle.hash_tree.specs.Entries.{entries_of}
use Rattle.domain_table.specs.Rows.{data_in, listed_in, marked}
use Rattle.domain_table.proofs.ListedRows.{marks_all}
use Rattle.domain_table.proofs.listing.list_entries.Goals as goal

pub returns : goal.returns
returns c =
    subst (λ ms. IfOk c.entries_listed.result (λ list. list.items ≡ entries (entries_of (marked ms))))
    (marks_all c.deref.result.now (data_in c.args.rows.now.entries) (ap listed_in c.deref.ensures.value ∙ c.in_ok-rows.ensures)) c.entries_listed.ensures
