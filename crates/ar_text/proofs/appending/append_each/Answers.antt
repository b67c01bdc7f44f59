use Rattle.std.proofs.Common.{rules}
use Rattle.ar_text.specs.Parts.{part_text}
use Rattle.ar_base.proofs.Appending.{item_stops}
use Rattle.ar_text.proofs.appending.append_each.Goals as goal

pub returns-in_err-append_part : goal.returns-in_err-append_part
returns-in_err-append_part c =
    item_stops part_text _ _ _ _ _ _ _ _ _ c.loop-part-test.true c.loop-part.invariant c.append_part.ensures
    (search rules) (search rules)
