use Rattle.review.specs.Telling.{ignored_line}
use Rattle.review.proofs.Behind.{one-more}
use Rattle.review.proofs.telling.tell_ignored.Goals as goal

pub loop-item-preserved : goal.loop-item-preserved
loop-item-preserved c =
    one-more ignored_line c.args.ignored.now c.loop-item.item-index _ _ _ _ c.loop-item-test.true c.loop-item.invariant c.in_ok-add_ignored.ensures
