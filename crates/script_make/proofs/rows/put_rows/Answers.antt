use Rattle.std.proofs.Common.{rules, arith}
use Rattle.script_make.proofs.Counted.{number_then, number_stops}
use Rattle.script_make.specs.Rows.{row_text}
use Rattle.script_make.proofs.rows.put_rows.Goals as goal

pub returns-in_err-put_row : goal.returns-in_err-put_row
returns-in_err-put_row c =
    number_stops (row_text c.args.row) _ _ _ _ _ _ _ _ _ _ (omega arith) (omega arith) c.loop-i.invariant c.put_row.ensures
    (search rules) (search rules)

pub loop-i-preserved : goal.loop-i-preserved
loop-i-preserved c = number_then (row_text c.args.row) _ _ _ _ _ _ _ _ c.loop-i.invariant c.in_ok-put_row.ensures (omega arith) (omega arith)
