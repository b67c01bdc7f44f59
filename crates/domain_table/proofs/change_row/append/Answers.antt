use Rattle.std.proofs.Common.{◌<◌, ◌+◌, ◌++◌, ◌∷◌, [], List, map, length, get_or, refl, sym, ap, subst, ◌∙◌, arith, length-append, None, vec_len, vec_capacity}
use Rattle.std.specs.Prelude.{IsTrue}
use Rattle.std.specs.FinMap.{from_entries, is_sorted}
use Rattle.hash_tree.specs.Entries.{key_cmp}
use Rattle.domain_table.specs.declared.row.Row.{Row}
use Rattle.domain_table.specs.declared.row.Marks.{Marks}
use Rattle.domain_table.specs.Rows.{HaveOwnKeys, RowData, by_name, chain_pair, data_in, data_of, marked, marks_of, rows_in, with_row}
use Rattle.domain_table.proofs.Newest.{value-push}
use Rattle.domain_table.proofs.Places.{length_rows}
use Rattle.domain_table.proofs.ChangedRow.{at_row, chain_there, marks_named, row_changed}
use Rattle.domain_table.proofs.change_row.append.Goals as goal

pub retrie-requires-clause-tree : goal.retrie-requires-clause-tree
retrie-requires-clause-tree c =
    let place : c.args.i < length c.make_room.new.rows.entries = omega (arith, c.requires.place, length_rows c.make_room.new.rows.entries, length_rows c.args.rows.now.entries, ap length c.make_room.ensures.same) in
    let rise : IsTrue (is_sorted key_cmp (map chain_pair (data_in c.make_room.new.rows.entries))) =
    subst (λ (xs : List RowData). IsTrue (is_sorted key_cmp (map chain_pair (by_name xs)))) (sym c.make_room.ensures.same) c.requires.are.rise in
    c.requires.tree
    ∙ ap (λ ms. from_entries (marked ms))
    (ap (λ xs. marks_of (by_name xs)) (sym c.make_room.ensures.same)
    ∙ marks_named c.make_room.new.rows.entries c.args.i c.name_at-name.result.now c.row_at.result.now place rise c.name_at-name.ensures c.row_at.ensures)

pub retrie-requires-clause-apart : goal.retrie-requires-clause-apart
retrie-requires-clause-apart c =
    let place : c.args.i < length c.make_room.new.rows.entries = omega (arith, c.requires.place, length_rows c.make_room.new.rows.entries, length_rows c.args.rows.now.entries, ap length c.make_room.ensures.same) in
    let rise : IsTrue (is_sorted key_cmp (map chain_pair (data_in c.make_room.new.rows.entries))) =
    subst (λ (xs : List RowData). IsTrue (is_sorted key_cmp (map chain_pair (by_name xs)))) (sym c.make_room.ensures.same) c.requires.are.rise in
    subst (λ (ms : List Marks). HaveOwnKeys c.args.apart ms c.args.trie.now)
    (ap (λ xs. marks_of (by_name xs)) (sym c.make_room.ensures.same)
    ∙ marks_named c.make_room.new.rows.entries c.args.i c.name_at-name.result.now c.row_at.result.now place rise c.name_at-name.ensures c.row_at.ensures)
    c.requires.apart

pub grow-requires : goal.grow-requires
grow-requires c =
    let place : c.args.i < length c.make_room.new.rows.entries = omega (arith, c.requires.place, length_rows c.make_room.new.rows.entries, length_rows c.args.rows.now.entries, ap length c.make_room.ensures.same) in
    at_row (λ (r : Row). vec_len r.chain < vec_capacity r.chain) c.make_room.new.rows.entries c.args.i c.index_mut.result.now place c.index_mut.ensures.value c.in_default.ensures.ok

pub returns-clause-ok : goal.returns-clause-ok
returns-clause-ok c = λ d.
    let here : RowData = get_or (rows_in c.args.rows.now.entries) c.args.i d in
    let place : c.args.i < length c.make_room.new.rows.entries = omega (arith, c.requires.place, length_rows c.make_room.new.rows.entries, length_rows c.args.rows.now.entries, ap length c.make_room.ensures.same) in
    let marks : Marks = record { key = c.row_at.result.now.marks.key; value = c.newest_value.result; pending_key = c.row_at.result.now.marks.pending_key; pending_value = None } in
    row_changed c.args.rows.now.entries c.make_room.new.rows.entries c.retrie.new.trie c.args.i c.name_at-name.result.now c.row_at.result.now c.grow.new.row
    (here.chain ++ c.args.change ∷ []) None marks place c.make_room.ensures.same c.requires.are c.name_at-name.ensures c.row_at.ensures
    (λ n. c.grow.ensures n
    ∙ ap (λ cs. with_row (data_of (n, c.row_at.result.now)) (cs ++ c.args.change ∷ []) None marks)
    (chain_there c.make_room.new.rows.entries c.args.i c.index_mut.result.now d place c.index_mut.ensures.value ∙ ap (λ (xs : List RowData). (get_or xs c.args.i d).chain) c.make_room.ensures.same))
    (omega (arith, length-append here.chain (c.args.change ∷ []))) refl refl (c.newest_value.ensures ∙ sym (value-push here.chain c.args.change)) refl
    c.in_default-retrie.ensures.ok d
