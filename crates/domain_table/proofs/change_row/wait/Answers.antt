use Rattle.std.proofs.Common.{◌≡◌, ◌<◌, List, length, get_or, refl, ap, subst, ◌∙◌, arith}
use Rattle.std.specs.FinMap.{from_entries}
use Rattle.domain_table.specs.declared.row.Marks.{Marks}
use Rattle.domain_table.specs.Rows.{HaveOwnKeys, IsMarked, RowData, data_of, marked, rows_in, waits, with_row}
use Rattle.domain_table.proofs.ByName.{all_came}
use Rattle.domain_table.proofs.Places.{length_rows}
use Rattle.domain_table.proofs.ChangedRow.{chain_there, marks_named, marks_there, row_changed}
use Rattle.domain_table.proofs.change_row.wait.Goals as goal

pub retrie_pending-requires-clause-tree : goal.retrie_pending-requires-clause-tree
retrie_pending-requires-clause-tree c =
    c.requires.tree
    ∙ ap (λ ms. from_entries (marked ms)) (marks_named c.args.rows.now.entries c.args.i c.name_at-name.result.now c.row_at.result.now c.requires.place c.requires.are.rise c.name_at-name.ensures c.row_at.ensures)

pub retrie_pending-requires-clause-apart : goal.retrie_pending-requires-clause-apart
retrie_pending-requires-clause-apart c =
    subst (λ (ms : List Marks). HaveOwnKeys c.args.apart ms c.args.trie.now)
    (marks_named c.args.rows.now.entries c.args.i c.name_at-name.result.now c.row_at.result.now c.requires.place c.requires.are.rise c.name_at-name.ensures c.row_at.ensures) c.requires.apart

pub returns-clause-ok : goal.returns-clause-ok
returns-clause-ok c = λ d.
    let here : RowData = get_or (rows_in c.args.rows.now.entries) c.args.i d in
    let within : c.args.i < length (rows_in c.args.rows.now.entries) = omega (arith, c.requires.place, length_rows c.args.rows.now.entries) in
    let old : IsMarked here = all_came IsMarked (rows_in c.args.rows.now.entries) c.requires.are.marked c.args.i d within in
    let own : c.row_at.result.now.marks ≡ here.marks = marks_there c.args.rows.now.entries c.args.i c.row_at.result.now d c.requires.place c.row_at.ensures in
    let marks : Marks = record { key = c.row_at.result.now.marks.key; value = c.row_at.result.now.marks.value; pending_key = c.row_at.result.now.marks.pending_key; pending_value = c.waiting_value.result } in
    row_changed c.args.rows.now.entries c.args.rows.now.entries c.retrie_pending.new.trie c.args.i c.name_at-name.result.now c.row_at.result.now c.hold.new.row
    here.chain (waits c.args.change c.args.since) marks c.requires.place refl c.requires.are c.name_at-name.ensures c.row_at.ensures
    (λ n. c.hold.ensures n
    ∙ ap (λ cs. with_row (data_of (n, c.row_at.result.now)) cs (waits c.args.change c.args.since) marks) (chain_there c.args.rows.now.entries c.args.i c.index_mut.result.now d c.requires.place c.index_mut.ensures.value))
    old.some refl refl (ap (λ (m : Marks). m.value) own ∙ old.value) c.waiting_value.ensures
    c.in_default.ensures.ok d
