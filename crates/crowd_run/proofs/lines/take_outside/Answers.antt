-- A line that is not read as `burst`.
use Rattle.std.proofs.Common.{◌≡◌, false}
use Rattle.crowd_run.specs.Scripts.{is_burst}
use Rattle.crowd_run.proofs.LineLemmas.{other_passed}
use Rattle.crowd_run.proofs.lines.take_outside.Goals as goal

pub returns-clause-passes : goal.returns-clause-passes
returns-clause-passes g c = λ workers.
    let other : is_burst c.args.read ≡ false = cc in
    other_passed g.K.Sink.faults g.K.Sink.wrote c.args.sink.now c.take_read.new.sink workers c.args.stage.now c.take_read.new.self c.args.read c.take_read.result other c.take_read.ensures.plays
