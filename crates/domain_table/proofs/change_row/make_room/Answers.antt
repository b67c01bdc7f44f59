use Rattle.std.proofs.Common.{◌<◌, arith, vec_len, vec_capacity}
use Rattle.std.specs.Option.{option_map}
use Rattle.std.proofs.lemmas.Result.{on_ok_weaker}
use Rattle.domain_table.specs.declared.row.Row.{Row}
use Rattle.domain_table.specs.Rows.{pending_of}
use Rattle.domain_table.proofs.ChangedRow.{same_there, set_row}
use Rattle.domain_table.proofs.change_row.make_room.Goals as goal

pub returns-clause-same : goal.returns-clause-same
returns-clause-same c =
    same_there c.args.rows.now.entries c.args.i c.index_mut.result.now _ c.requires c.index_mut.ensures.value
    (λ n k. record { name = n.items; chain = c.reserve.ensures.items k; waiting = option_map pending_of c.index_mut.result.now.waiting; marks = c.index_mut.result.now.marks })

pub returns-clause-ok : goal.returns-clause-ok
returns-clause-ok c =
    on_ok_weaker c.reserve.result (λ room. set_row (λ (r : Row). vec_len r.chain < vec_capacity r.chain) c.args.rows.now.entries c.args.i _ c.requires (omega (arith, room))) c.reserve.ensures.ok
