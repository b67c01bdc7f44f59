use Rattle.std.proofs.Common.{◌≡◌, ap, ◌∙◌}
use Rattle.domain_table.specs.Rows.{data_of, rows_in}
use Rattle.domain_table.proofs.Copies.{copied, not_copied}
use Rattle.domain_table.proofs.row_copy.copy_rows.Goals as goal

pub push_row-requires : goal.push_row-requires
push_row-requires c =
    not_copied c.args.rows.now.entries c.loop-name.copies.entries c.loop-name.name-iterator c.next.new.self (c.in-Some.name.now, c.in-Some.row.now) c.in_ok-name.name.items
    c.iter-name-items.ensures.unique c.loop-name.invariant c.in-Some.ensures.steps (c.in_ok-name.ensures.items ∙ c.as_slice.ensures.value)

pub loop-name-preserved : goal.loop-name-preserved
loop-name-preserved c =
    let row = c.in_ok-row.ensures c.in_ok-name.name in
    let same : data_of (c.in_ok-name.name, c.in_ok-row.row) ≡ data_of (c.in-Some.name.now, c.in-Some.row.now) =
    row ∙ ap (λ n. record { name = n; chain = (data_of (c.in-Some.name.now, c.in-Some.row.now)).chain; waiting = (data_of (c.in-Some.name.now, c.in-Some.row.now)).waiting; marks = c.in-Some.row.now.marks })
    (c.in_ok-name.ensures.items ∙ c.as_slice.ensures.value) in
    copied (rows_in c.args.rows.now.entries) c.loop-name.copies.entries c.push_row.new.rows.entries c.loop-name.name-iterator c.next.new.self
    (c.in-Some.name.now, c.in-Some.row.now) (c.in_ok-name.name, c.in_ok-row.row) c.in_ok-push_row.ensures.ok c.in-Some.ensures.steps same c.loop-name.invariant
