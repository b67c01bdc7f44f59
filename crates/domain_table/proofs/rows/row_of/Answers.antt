use Rattle.std.proofs.Common.{ap, sym, ◌∙◌, Some}
use Rattle.std.specs.Option.{option_map}
use Rattle.std.specs.FinMap.{get}
use Rattle.domain_table.specs.declared.row.Row.{Row}
use Rattle.domain_table.specs.Rows.{data_in, pending_of, table_of}
use Rattle.domain_table.proofs.ByName.{missing, of_row}
use Rattle.domain_table.proofs.Places.{one_of}
use Rattle.domain_table.proofs.RipeRows.{Stands, stands}
use Rattle.domain_table.proofs.rows.row_of.Goals as goal

pub returns-in-Some-clause-chain : goal.returns-in-Some-clause-chain
returns-in-Some-clause-chain c =
    let es = c.args.rows.now.entries in
    let l = c.in-Some.ensures.found.0 in
    let d = one_of es c.in-Some.i l in
    ap (λ (r : Row). Some r.chain.items) (c.row_at.ensures d)
    ∙ sym (of_row (Stands (table_of (data_in es))) es (stands (data_in es) c.requires) c.in-Some.i d l).chain
    ∙ ap (get (table_of (data_in es)).chains) (c.in-Some.ensures.found.1 d)

pub returns-in-Some-clause-waiting : goal.returns-in-Some-clause-waiting
returns-in-Some-clause-waiting c =
    let es = c.args.rows.now.entries in
    let l = c.in-Some.ensures.found.0 in
    let d = one_of es c.in-Some.i l in
    ap (λ (r : Row). option_map pending_of r.waiting) (c.row_at.ensures d)
    ∙ sym (of_row (Stands (table_of (data_in es))) es (stands (data_in es) c.requires) c.in-Some.i d l).waits
    ∙ ap (get (table_of (data_in es)).waiting) (c.in-Some.ensures.found.1 d)

pub returns-in-None-clause-chain : goal.returns-in-None-clause-chain
returns-in-None-clause-chain c = sym (missing c.args.rows.now.entries c.args.name.now c.in-None.ensures.absent).0

pub returns-in-None-clause-waiting : goal.returns-in-None-clause-waiting
returns-in-None-clause-waiting c = sym (missing c.args.rows.now.entries c.args.name.now c.in-None.ensures.absent).1
