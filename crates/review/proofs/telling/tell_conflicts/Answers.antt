use Rattle.review.specs.Telling.{conflict_line}
use Rattle.review.proofs.Behind.{one-more}
use Rattle.review.proofs.telling.tell_conflicts.Goals as goal

pub loop-conflict-preserved : goal.loop-conflict-preserved
loop-conflict-preserved c =
    one-more conflict_line c.args.conflicts.now c.loop-conflict.conflict-index _ _ _ _ c.loop-conflict-test.true c.loop-conflict.invariant c.in_ok-add_conflict.ensures
