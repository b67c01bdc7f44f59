use Rattle.std.proofs.Common.{rules, ℕ, ◌++◌, codes}
use Rattle.std.specs.Fmt.{decimal}
use Rattle.ar_base.proofs.Appending.{item_stops}
use Rattle.report_text.proofs.words.put_taken.Goals as goal

pub returns-in_err-put_numbered : goal.returns-in_err-put_numbered
returns-in_err-put_numbered c =
    item_stops (λ (message : ℕ). codes " " ++ decimal message) _ _ _ _ _ _ _ _ _ c.loop-message-test.true c.loop-message.invariant c.put_numbered.ensures
    (search rules) (search rules)
