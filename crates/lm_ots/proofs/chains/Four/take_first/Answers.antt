use Rattle.lm_ots.proofs.chains.Four.take_first.Goals as goal

pub loop-lane-preserved : goal.loop-lane-preserved
loop-lane-preserved c =
    λ id leaf end all four. c.take.ensures id leaf end all (c.loop-lane.invariant id leaf end all four)
