use Rattle.std.proofs.Common.{rules, subst}
use Rattle.ar_base.specs.Appending.{Appends}
use Rattle.ar_base.proofs.Appending.{item_stops}
use Rattle.ar_cert.specs.Changes.{change_text}
use Rattle.ar_message.proofs.writing.put_each_change.Goals as goal

pub returns-in_err-write : goal.returns-in_err-write
returns-in_err-write c =
    item_stops change_text _ _ c.change-item.result _ _ _ _ _ _ c.loop-change-test.true c.loop-change.invariant
    (subst (λ x. Appends (change_text x) c.loop-change.out c.write.new.out c.write.result) c.change-item.is c.write.ensures.appends)
    (search rules) (search rules)
