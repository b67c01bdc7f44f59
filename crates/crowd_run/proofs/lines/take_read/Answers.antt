-- A line where no burst is open.
use Rattle.std.proofs.Common.{◌≡◌, None, subst}
use Rattle.crowd_run.specs.Passing.{LinePasses}
use Rattle.crowd_run.specs.Scripts.{OpenBurst}
use Rattle.crowd_run.proofs.lines.take_read.Goals as goal

pub returns-in-None-clause-passes : goal.returns-in-None-clause-passes
returns-in-None-clause-passes g c =
    let Passes : OpenBurst → Type 0 = λ burst. LinePasses g.K.Sink.faults g.K.Sink.wrote c.args.sink.now c.take_outside.new.sink c.args.workers c.args.stage.now c.take_outside.new.stage burst c.args.read c.take_outside.result in
    let none : None ≡ c.args.burst.now = cc in
    subst Passes none (c.take_outside.ensures.passes c.args.workers)
