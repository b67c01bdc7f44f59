-- One errand more.
use Rattle.std.proofs.lemmas.List.{get_or_default}
use Rattle.burst_run.proofs.LayingLemmas.{errands_next}
use Rattle.burst_run.proofs.errands.errands_of.Goals as goal

pub loop-place-preserved : goal.loop-place-preserved
loop-place-preserved g c =
    errands_next c.args.world.now c.args.stations.now c.loop-place.place c.args.deliveries.now _ c.loop-place.errands.items _ c.in_ok-errand.field-0 c.loop-place-test.true
    (get_or_default c.args.deliveries.now c.loop-place.place _ _ c.loop-place-test.true) c.in_ok-errand.ensures c.in_ok-push.ensures.items c.loop-place.invariant
