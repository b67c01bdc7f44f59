use Rattle.std.proofs.Common.{rules}
use Rattle.ar_base.proofs.Appending.{item_stops}
use Rattle.script_make.specs.Rows.{teaching_text}
use Rattle.script_make.proofs.rows.put_teachings.Goals as goal

pub returns-in_err-append : goal.returns-in_err-append
returns-in_err-append c =
    rw (← c.trusted-authority-items.ensures) (item_stops (teaching_text c.args.domain) _ _ _ _ _ _ _ _ _ c.loop-authority-test.true c.loop-authority.invariant c.append.ensures.appends
    (search rules) (search rules))
