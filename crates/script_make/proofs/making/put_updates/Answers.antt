use Rattle.std.proofs.Common.{rules, arith}
use Rattle.script_make.proofs.Counted.{number_then, number_stops}
use Rattle.script_make.specs.Script.{update}
use Rattle.script_make.proofs.making.put_updates.Goals as goal

pub returns-in_err-put_update : goal.returns-in_err-put_update
returns-in_err-put_update c =
    number_stops (update c.args.domains) _ _ _ _ _ _ _ _ _ _ (omega arith) (omega arith) c.loop-k.invariant c.put_update.ensures
    (search rules) (search rules)

pub loop-k-preserved : goal.loop-k-preserved
loop-k-preserved c = number_then (update c.args.domains) _ _ _ _ _ _ _ _ c.loop-k.invariant c.in_ok-put_update.ensures (omega arith) (omega arith)
