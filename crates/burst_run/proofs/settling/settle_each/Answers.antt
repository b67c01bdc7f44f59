-- What the next reply makes of the world comes behind what was told.
use Rattle.std.proofs.Common.{◌++◌, length, ap, ◌∙◌, arith}
use Rattle.burst_run.proofs.SettlingLemmas.{settles_next}
use Rattle.burst_run.proofs.settling.settle_each.Goals as goal

pub loop-delivery-preserved : goal.loop-delivery-preserved
loop-delivery-preserved g c = (
  settles_next _ _ _ _ _ c.loop-delivery.world c.settle.new.self c.loop-delivery.said.items c.in_ok-more.more c.append.new.self.items (c.in-Some.delivery, c.in-Some.field-0-1) _ _ c.in-Some-next.reply _ _
      c.in-Some.ensures.steps.0 c.in-Some-next.ensures.cases.0 (c.in_ok-append.ensures.items ∙ ap (λ l. c.loop-delivery.said.items ++ l) c.into_vec.ensures) c.in_ok-more.ensures.ok c.loop-delivery.invariant.0,
  (let long = c.loop-delivery.invariant.1 in let one = c.in-Some-next.ensures.cases.1 in let items = ap length c.in-Some-next.ensures.cases.0 in omega (arith, long, one, items)),
  (let long = c.loop-delivery.invariant.2 in let one = c.in-Some.ensures.steps.1 in let items = ap length c.in-Some.ensures.steps.0 in omega (arith, long, one, items)),
)
