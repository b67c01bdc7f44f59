-- One line more is taken, is refused or breaks off.
use Rattle.std.proofs.Common.{rules, Option, Ok, subst}
use Rattle.ar_world.specs.declared.cause.Cause.{Cause}
use Rattle.script_play.proofs.Runs.{line-none, line-there, next-shorter, on-line, on-line-broken, on-line-none, on-line-refused}
use Rattle.script_play.proofs.Taking.{TakesText}
use Rattle.script_play.proofs.stage.Stage.take_lines.Goals as goal

pub returns-in_default : goal.returns-in_default
returns-in_default g c =
    let here = c.loop-line in
    on-line-none g.K.Sink.faults g.K.Sink.wrote c.args.sink.now here.sink c.args.self.now here.self c.args.lines.now here.lines here.invariant (line-none here.lines c.in_default.field-0 c.in_default.ensures)

pub returns-in_err-cause : goal.returns-in_err-cause
returns-in_err-cause g c =
    let here = c.loop-line in
    let next = line-there here.lines c.line.new.self c.in-Ok.line c.line-number.result c.text.result.now c.in-Ok.ensures c.line-number.ensures c.text.ensures in
    let so = on-line-broken g.K.Sink.faults g.K.Sink.wrote c.args.sink.now here.sink c.take_text.new.sink c.args.self.now here.self c.take_text.new.self c.args.lines.now here.lines c.line.new.self c.line-number.result c.text.result.now _ here.invariant next c.in_err-cause.ensures in
    search (rules, so)

pub returns-in-Some : goal.returns-in-Some
returns-in-Some g c =
    let here = c.loop-line in
    let next = line-there here.lines c.line.new.self c.in-Ok.line c.line-number.result c.text.result.now c.in-Ok.ensures c.line-number.ensures c.text.ensures in
    let Taken = λ (cause : Option Cause). TakesText g.K.Sink.faults g.K.Sink.wrote here.sink c.take_text.new.sink here.self c.take_text.new.self c.line-number.result c.text.result.now (Ok cause) in
    on-line-refused g.K.Sink.faults g.K.Sink.wrote c.args.sink.now here.sink c.take_text.new.sink c.args.self.now here.self c.take_text.new.self c.args.lines.now here.lines c.line.new.self c.line-number.result c.text.result.now c.in-Some.cause
    here.invariant next (subst Taken c.in-Some.is c.in_ok-cause.ensures)

pub loop-line-smaller : goal.loop-line-smaller
loop-line-smaller g c =
    let next = line-there c.loop-line.lines c.line.new.self c.in-Ok.line c.line-number.result c.text.result.now c.in-Ok.ensures c.line-number.ensures c.text.ensures in
    next-shorter c.loop-line.lines c.line.new.self c.line-number.result c.text.result.now next

pub loop-line-preserved : goal.loop-line-preserved
loop-line-preserved g c =
    let here = c.loop-line in
    let next = line-there here.lines c.line.new.self c.in-Ok.line c.line-number.result c.text.result.now c.in-Ok.ensures c.line-number.ensures c.text.ensures in
    let Taken = λ (cause : Option Cause). TakesText g.K.Sink.faults g.K.Sink.wrote here.sink c.take_text.new.sink here.self c.take_text.new.self c.line-number.result c.text.result.now (Ok cause) in
    on-line g.K.Sink.faults g.K.Sink.wrote c.args.sink.now here.sink c.take_text.new.sink c.args.self.now here.self c.take_text.new.self c.args.lines.now here.lines c.line.new.self c.line-number.result c.text.result.now
    here.invariant next (subst Taken c.in_default-2.is c.in_ok-cause.ensures)
