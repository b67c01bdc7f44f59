-- Lines that break off, or the line that tells which was refused.
use Rattle.std.proofs.Common.{rules, None, Err, Ok, subst}
use Rattle.ar_lines.specs.Lines.{lines_of}
use Rattle.ar_lines.specs.Readings.{LineCursor}
use Rattle.script_play.proofs.Runs.{all-broken, all-told, all-untold}
use Rattle.crowd_run.specs.Scripts.{crowd_from}
use Rattle.crowd_run.proofs.LineLemmas.{Crowds}
use Rattle.crowd_run.proofs.playing.take_all.Goals as goal

pub returns-in_err-refusal : goal.returns-in_err-refusal
returns-in_err-refusal g c =
    let fault = c.in_err-refusal.field-0.0 in
    let Played : LineCursor → Type 0 = λ at. Crowds g.K.Sink.faults g.K.Sink.wrote c.args.sink.now c.take_lines.new.sink c.args.workers c.args.stage.now c.take_lines.new.stage at.next None at.ahead (Err fault) in
    let so = all-broken g.K.Sink.faults g.K.Sink.wrote c.args.sink.now c.take_lines.new.sink c.args.stage.now c.take_lines.new.stage (crowd_from c.args.workers 1 c.args.stage.now.world None (lines_of c.args.input.now)) fault (subst Played c.new.ensures c.in_err-refusal.ensures) in
    search (rules, so)

pub returns-in_err-tell_refusal : goal.returns-in_err-tell_refusal
returns-in_err-tell_refusal g c =
    let refusal = c.in_ok-refusal.refusal in
    let Played : LineCursor → Type 0 = λ at. Crowds g.K.Sink.faults g.K.Sink.wrote c.args.sink.now c.take_lines.new.sink c.args.workers c.args.stage.now c.take_lines.new.stage at.next None at.ahead (Ok refusal) in
    let so = all-untold g.K.Sink.faults g.K.Sink.wrote c.args.sink.now c.take_lines.new.sink c.tell_refusal.new.sink c.args.stage.now c.take_lines.new.stage (crowd_from c.args.workers 1 c.args.stage.now.world None (lines_of c.args.input.now)) refusal _ (subst Played c.new.ensures c.in_ok-refusal.ensures) c.in_err-tell_refusal.ensures in
    search (rules, so)

pub returns : goal.returns
returns g c =
    let refusal = c.in_ok-refusal.refusal in
    let Played : LineCursor → Type 0 = λ at. Crowds g.K.Sink.faults g.K.Sink.wrote c.args.sink.now c.take_lines.new.sink c.args.workers c.args.stage.now c.take_lines.new.stage at.next None at.ahead (Ok refusal) in
    all-told g.K.Sink.faults g.K.Sink.wrote c.args.sink.now c.take_lines.new.sink c.tell_refusal.new.sink c.args.stage.now c.take_lines.new.stage (crowd_from c.args.workers 1 c.args.stage.now.world None (lines_of c.args.input.now)) refusal (subst Played c.new.ensures c.in_ok-refusal.ensures) c.in_ok-tell_refusal.ensures
