-- A script that is played, and one that breaks off.
use Rattle.crowd_run.proofs.LineLemmas.{crowd_broke, crowd_played}
use Rattle.crowd_run.proofs.playing.play.Goals as goal

pub returns-in-Err : goal.returns-in-Err
returns-in-Err g c =
    crowd_broke g.K.Sink.faults g.K.Sink.wrote c.args.sink.now c.take_all.new.sink c.args.workers _ c.begin-stage.result c.take_all.new.stage c.args.input.now c.in-Err.fault c.begin-stage.ensures c.in-Err.ensures

pub returns-in-Ok : goal.returns-in-Ok
returns-in-Ok g c =
    crowd_played g.K.Sink.faults g.K.Sink.wrote c.args.sink.now c.take_all.new.sink c.args.workers _ c.begin-stage.result c.take_all.new.stage _ c.args.input.now c.in-Ok.refused
    c.begin-stage.ensures c.stage.view_is c.in-Ok.ensures
