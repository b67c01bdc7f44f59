use Rattle.std.proofs.Common.{◌-◌, ◌++◌, ◌∷◌, [], get_or, sym, ap, ◌∙◌, subst, arith, None}
use Rattle.std.specs.Option.{option_map}
use Rattle.domain_table.specs.Rows.{IsChangedIn, RowData, data_of, is_ripe_row, pending_of, rows_in}
use Rattle.domain_table.proofs.Ripening.{at_place, not_ripe_here, one_fewer, ripened_here}
use Rattle.domain_table.proofs.ripe_rows.ripen_row.Goals as goal

pub returns-then-not-is_ripe : goal.returns-then-not-is_ripe
returns-then-not-is_ripe c = λ first up.
    let there = at_place c.args.rows.now.entries c.args.i c.row_at-row.result.now c.requires.place c.row_at-row.ensures in
    let d : RowData = data_of (there.0, c.row_at-row.result.now) in
    not_ripe_here c.args.epoch first c.args.rows.now.entries c.args.trie.now c.args.waiting c.args.i d c.requires.place
    (ap (is_ripe_row c.args.epoch) (there.1 d) ∙ sym c.is_ripe.ensures ∙ c.if-not-is_ripe.true) up

pub overflow_sub-result : goal.overflow_sub-result
overflow_sub-result c =
    let old = c.args.rows.now.entries in
    let there = at_place old c.args.i c.row_at-row.result.now c.requires.place c.row_at-row.ensures in
    let d : RowData = data_of (there.0, c.row_at-row.result.now) in
    let one = one_fewer c.args.epoch old c.append.new.rows.entries c.append.new.trie c.args.i d (pending_of c.in-Some.waits) c.requires.place
    (ap (is_ripe_row c.args.epoch) (there.1 d) ∙ sym c.is_ripe.ensures ∙ c.if-not-is_ripe.false)
    (ap (λ (r : RowData). r.waiting) (there.1 d) ∙ ap (option_map pending_of) c.in-Some.is) c.requires.are
    (subst (λ x. IsChangedIn old c.append.new.rows.entries c.append.new.trie c.args.i (get_or (rows_in old) c.args.i d) ((get_or (rows_in old) c.args.i d).chain ++ x ∷ []) None) c.in_ok-change.ensures (c.in-Ok.ensures.ok d)) in
    omega (arith, one, c.requires.wait)

pub returns-in-Ok : goal.returns-in-Ok
returns-in-Ok c = λ first up.
    let old = c.args.rows.now.entries in
    let there = at_place old c.args.i c.row_at-row.result.now c.requires.place c.row_at-row.ensures in
    let d : RowData = data_of (there.0, c.row_at-row.result.now) in
    let ripe = ap (is_ripe_row c.args.epoch) (there.1 d) ∙ sym c.is_ripe.ensures ∙ c.if-not-is_ripe.false in
    let waits = ap (λ (r : RowData). r.waiting) (there.1 d) ∙ ap (option_map pending_of) c.in-Some.is in
    let changed = subst (λ x. IsChangedIn old c.append.new.rows.entries c.append.new.trie c.args.i (get_or (rows_in old) c.args.i d) ((get_or (rows_in old) c.args.i d).chain ++ x ∷ []) None) c.in_ok-change.ensures (c.in-Ok.ensures.ok d) in
    let one = one_fewer c.args.epoch old c.append.new.rows.entries c.append.new.trie c.args.i d (pending_of c.in-Some.waits) c.requires.place ripe waits c.requires.are changed in
    ripened_here c.args.epoch first old c.append.new.rows.entries c.args.trie.now c.append.new.trie c.args.waiting (c.args.waiting - 1) c.args.i d (pending_of c.in-Some.waits) c.requires.place
    ripe waits changed (omega (arith, one, c.requires.wait)) up
