-- What the next visit makes of the world is what is left of all.
use Rattle.std.proofs.Common.{length, ap, arith}
use Rattle.burst_run.proofs.SettlingLemmas.{visits_next}
use Rattle.burst_run.proofs.settling.settle_all.Goals as goal

pub loop-visit-preserved : goal.loop-visit-preserved
loop-visit-preserved g c = (
  visits_next _ _ c.loop-visit.world c.settle_visit.new.world c.loop-visit.said.items c.settle_visit.new.said.items c.in-Some.visit _ _ c.in-Some.ensures.steps.0 c.in_ok-settle_visit.ensures
      c.loop-visit.invariant.0,
  (let long = c.loop-visit.invariant.1 in let one = c.in-Some.ensures.steps.1 in let items = ap length c.in-Some.ensures.steps.0 in omega (arith, long, one, items)),
)
