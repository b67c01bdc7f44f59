use Rattle.std.proofs.Common.{rules, subst}
use Rattle.ar_base.specs.Appending.{Appends}
use Rattle.ar_base.proofs.Appending.{item_stops}
use Rattle.ar_message.specs.Lists.{status_text}
use Rattle.ar_message.proofs.writing.put_each_status.Goals as goal

pub returns-in_err-put_status : goal.returns-in_err-put_status
returns-in_err-put_status c =
    item_stops status_text _ _ c.status-item.result _ _ _ _ _ _ c.loop-status-test.true c.loop-status.invariant
    (subst (λ x. Appends (status_text x) c.loop-status.out c.put_status.new.out c.put_status.result) c.status-item.is c.put_status.ensures)
    (search rules) (search rules)
