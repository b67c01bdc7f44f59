use Rattle.std.proofs.Common.{[], ◌∷◌, ◌++◌}
use Rattle.ar_cert.specs.Changes.{change_at}
use Rattle.ar_bytes.proofs.Lists.{list_goes_on}
use Rattle.ar_message.proofs.take_lists.changes.Goals as goal

pub loop-preserved : goal.loop-preserved
loop-preserved c =
    let front = c.loop.invariant.0 in
    (front ++ c.in_ok-change.change ∷ [], (c.with_change-list.ensures front c.loop.invariant.1.0, list_goes_on change_at front c.in_ok-count.count c.loop.counter c.loop.fields _ _ _ c.loop-test.true c.in_ok-change.ensures c.loop.invariant.1.1))
