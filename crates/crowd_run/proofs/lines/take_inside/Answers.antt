-- An event, a line of another kind, and memory that is wanting.
use Rattle.std.proofs.Common.{Ok, Some}
use Rattle.std.proofs.lemmas.Result.{err_from_is_err_and}
use Rattle.crowd_run.proofs.LineLemmas.{event_passed, passed_no_more, plain_passed}
use Rattle.crowd_run.proofs.lines.take_inside.Goals as goal

pub returns-in_err-take_event-in-Event-clause-passes : goal.returns-in_err-take_event-in-Event-clause-passes
returns-in_err-take_event-in-Event-clause-passes g c =
    let p = err_from_is_err_and c.from_residual.result c.from_residual.ensures.1 in
    rw (p.1, p.2) (passed_no_more g.K.Sink.faults g.K.Sink.wrote c.args.sink.now c.args.workers c.args.stage.now c.args.stage.now (Some c.args.deliveries) (Ok (Some c.args.line.now)) c.requires.workers.0)

pub returns-in_ok-take_event-in-Event-clause-passes : goal.returns-in_ok-take_event-in-Event-clause-passes
returns-in_ok-take_event-in-Event-clause-passes g c =
    event_passed g.K.Sink.faults g.K.Sink.wrote c.args.sink.now c.args.workers c.args.stage.now c.args.deliveries c.args.line.now _ _ c.in-Event.is c.in_ok-take_event-in-Event.ensures.cause

pub returns-in-Setup-clause-passes : goal.returns-in-Setup-clause-passes
returns-in-Setup-clause-passes g c =
    plain_passed g.K.Sink.faults g.K.Sink.wrote c.args.sink.now c.args.workers c.requires.workers.0 c.args.stage.now c.args.deliveries c.args.line.now c.in-Setup.is
