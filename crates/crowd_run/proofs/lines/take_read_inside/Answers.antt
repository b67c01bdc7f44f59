-- A line that is skipped, and one that could not be read.
use Rattle.std.proofs.Common.{◌≡◌, None, Ok, Err}
use Rattle.crowd_run.proofs.LineLemmas.{inside_skipped, inside_unread}
use Rattle.crowd_run.proofs.lines.take_read_inside.Goals as goal

pub returns-in-Ok-None-clause-passes : goal.returns-in-Ok-None-clause-passes
returns-in-Ok-None-clause-passes g c =
    let is : c.args.read ≡ Ok None = cc in
    inside_skipped g.K.Sink.faults g.K.Sink.wrote c.args.sink.now c.args.workers c.args.stage.now c.args.deliveries c.args.read is

pub returns-in-Err-clause-passes : goal.returns-in-Err-clause-passes
returns-in-Err-clause-passes g c =
    let is : c.args.read ≡ Err c.in-Err.reason = cc in
    inside_unread g.K.Sink.faults g.K.Sink.wrote c.args.sink.now c.args.workers c.args.stage.now c.args.deliveries c.args.read c.in-Err.reason is
