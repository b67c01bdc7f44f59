use Rattle.std.proofs.Common.{◌≤◌, arith}
use borrow.Author.Tests.{leb-true}
use Rattle.domain_table.specs.Rows.{data_in, rows_in}
use Rattle.domain_table.proofs.Alone.{marked_counted}
use Rattle.domain_table.proofs.ByName.{length_named}
use Rattle.domain_table.proofs.Places.{length_rows}
use Rattle.domain_table.proofs.tree.are_apart.Goals as goal

pub returns-in-Some : goal.returns-in-Some
returns-in-Some c = λ is.
    let count = marked_counted (data_in c.args.rows.now.entries) c.requires.are in
    let named = length_named (rows_in c.args.rows.now.entries) in
    let rows = length_rows c.args.rows.now.entries in
    let most : c.args.waiting ≤ c.in-Some.rest = leb-true _ _ is in
    let rest = c.in-Some.ensures in
    omega (arith, count, named, rows, most, rest, c.len.ensures.len, c.requires.wait, c.least.ensures)
