use Rattle.std.proofs.Common.{[], ◌∷◌, ◌++◌}
use Rattle.ar_bytes.proofs.Ascending.{entry_more}
use Rattle.ar_message.specs.Lists.{status_from}
use Rattle.ar_message.specs.Views.{status_of}
use Rattle.ar_message.proofs.take_lists.statuses.Goals as goal

pub loop-preserved : goal.loop-preserved
loop-preserved c =
    let front = c.loop.invariant.0 in
    (front ++ status_of c.in_ok-next.next ∷ [], (c.with_status-list.ensures front c.loop.invariant.1.0, entry_more (λ v. v.log) status_from front c.in_ok-count.count c.loop.counter c.loop.least c.loop.fields _ _ _ c.loop-test.true c.in_ok-next.ensures.tells c.loop.invariant.1.1))
