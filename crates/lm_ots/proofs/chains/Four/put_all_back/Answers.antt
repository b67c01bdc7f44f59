use Rattle.lm_ots.proofs.chains.Four.put_all_back.Goals as goal

pub loop-lane-preserved : goal.loop-lane-preserved
loop-lane-preserved c =
    λ id leaf end all four. c.put_back.ensures id leaf end (c.loop-lane.invariant id leaf end all four) four
