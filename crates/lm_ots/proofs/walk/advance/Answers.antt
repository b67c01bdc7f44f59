use Rattle.lm_ots.proofs.walk.advance.Goals as goal

pub loop-step-preserved : goal.loop-step-preserved
loop-step-preserved c = λ end holds. c.step.ensures end (c.loop-step.invariant end holds)
