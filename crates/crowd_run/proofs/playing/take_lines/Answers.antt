-- One line more is taken, is refused or breaks off; or none is left.
use Rattle.std.proofs.Common.{◌≡◌, rules, Option, Ok, Err, subst}
use Rattle.script_play.specs.ar_world.declared.cause.Cause.{Cause}
use Rattle.crowd_run.specs.Passing.{LinePasses}
use Rattle.crowd_run.specs.Scripts.{LineRead, open_behind}
use Rattle.crowd_run.proofs.LineLemmas.{on_broken, on_line, on_missing, on_refused}
use Rattle.script_play.proofs.Runs.{line-there, next-shorter}
use Rattle.script_play.specs.Playing.{line_read}
use Rattle.crowd_run.proofs.playing.take_lines.Goals as goal

pub returns-in-Err : goal.returns-in-Err
returns-in-Err g c =
    let here = c.loop-line in
    on_missing g.K.Sink.faults g.K.Sink.wrote c.args.sink.now here.sink c.args.workers c.args.stage.now here.stage here.burst c.args.lines.now here.lines c.in-Err.refusal c.script_end.result
    here.invariant.on c.in-Err.ensures (c.script_end.ensures here.stage.world)

pub returns-in_err-cause : goal.returns-in_err-cause
returns-in_err-cause g c =
    let here = c.loop-line in
    let f = c.in_err-cause.field-0.0 in
    let next = line-there here.lines c.line.new.self c.in-Ok.line c.line-number.result c.text.result.now c.in-Ok.ensures c.line-number.ensures c.text.ensures in
    let Passes : LineRead → Type 0 = λ read. LinePasses g.K.Sink.faults g.K.Sink.wrote here.sink c.take_read.new.sink c.args.workers here.stage c.take_read.new.stage here.burst read (Err f) in
    let so = on_broken g.K.Sink.faults g.K.Sink.wrote c.args.sink.now here.sink c.take_read.new.sink c.args.workers c.requires.workers.0 c.args.stage.now here.stage c.take_read.new.stage here.burst c.args.lines.now here.lines c.line.new.self c.line-number.result c.text.result.now f
    here.invariant.on next (subst Passes c.read_line-read.ensures c.in_err-cause.ensures.passes) in
    search (rules, so)

pub returns-in-Some : goal.returns-in-Some
returns-in-Some g c =
    let here = c.loop-line in
    let next = line-there here.lines c.line.new.self c.in-Ok.line c.line-number.result c.text.result.now c.in-Ok.ensures c.line-number.ensures c.text.ensures in
    let Passes : LineRead → Option Cause → Type 0 = λ read cause. LinePasses g.K.Sink.faults g.K.Sink.wrote here.sink c.take_read.new.sink c.args.workers here.stage c.take_read.new.stage here.burst read (Ok cause) in
    let passes = subst (λ (read : LineRead). Passes read c.in_ok-cause.field-0) c.read_line-read.ensures c.in_ok-cause.ensures.passes in
    on_refused g.K.Sink.faults g.K.Sink.wrote c.args.sink.now here.sink c.take_read.new.sink c.args.workers c.requires.workers.0 c.args.stage.now here.stage c.take_read.new.stage here.burst c.args.lines.now here.lines c.line.new.self c.line-number.result c.text.result.now c.in-Some.cause
    here.invariant.on next (subst (Passes (line_read c.line-number.result c.text.result.now)) c.in-Some.is passes)

pub loop-line-smaller : goal.loop-line-smaller
loop-line-smaller g c =
    let next = line-there c.loop-line.lines c.line.new.self c.in-Ok.line c.line-number.result c.text.result.now c.in-Ok.ensures c.line-number.ensures c.text.ensures in
    next-shorter c.loop-line.lines c.line.new.self c.line-number.result c.text.result.now next

pub loop-line-preserved : goal.loop-line-preserved
loop-line-preserved g c =
    let here = c.loop-line in
    let next = line-there here.lines c.line.new.self c.in-Ok.line c.line-number.result c.text.result.now c.in-Ok.ensures c.line-number.ensures c.text.ensures in
    let Passes : LineRead → Option Cause → Type 0 = λ read cause. LinePasses g.K.Sink.faults g.K.Sink.wrote here.sink c.take_read.new.sink c.args.workers here.stage c.take_read.new.stage here.burst read (Ok cause) in
    let passes = subst (λ (read : LineRead). Passes read c.in_ok-cause.field-0) c.read_line-read.ensures c.in_ok-cause.ensures.passes in
    let Opens : LineRead → Type 0 = λ read. c.take_read.new.burst ≡ open_behind here.burst read in
    record {
      on = on_line g.K.Sink.faults g.K.Sink.wrote c.args.sink.now here.sink c.take_read.new.sink c.args.workers c.args.stage.now here.stage c.take_read.new.stage here.burst c.take_read.new.burst c.args.lines.now here.lines c.line.new.self c.line-number.result c.text.result.now
          here.invariant.on next (subst (Passes (line_read c.line-number.result c.text.result.now)) c.in_default.is passes)
          (subst Opens c.read_line-read.ensures (c.in_ok-cause.ensures.burst c.in_default.is));
      ready = c.in_ok-cause.ensures.ready c.in_default.is;
    }
