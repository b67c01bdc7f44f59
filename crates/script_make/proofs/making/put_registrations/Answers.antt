use Rattle.std.proofs.Common.{rules, arith}
use Rattle.script_make.proofs.Counted.{number_then, number_stops}
use Rattle.script_make.specs.Script.{registration}
use Rattle.script_make.proofs.making.put_registrations.Goals as goal

pub returns-in_err-put_registration : goal.returns-in_err-put_registration
returns-in_err-put_registration c =
    number_stops (registration c.args.domains) _ _ _ _ _ _ _ _ _ _ (omega arith) (omega arith) c.loop-k.invariant c.put_registration.ensures
    (search rules) (search rules)

pub loop-k-preserved : goal.loop-k-preserved
loop-k-preserved c = number_then (registration c.args.domains) _ _ _ _ _ _ _ _ c.loop-k.invariant c.in_ok-put_registration.ensures (omega arith) (omega arith)
