-- A script that is played, and one that breaks off.
use Rattle.script_play.proofs.Runs.{play-broken, play-so}
use Rattle.script_play.proofs.playing.play.Goals as goal

pub returns-in-Err : goal.returns-in-Err
returns-in-Err g c =
    play-broken g.K.Sink.faults g.K.Sink.wrote c.args.sink.now c.take_all.new.sink _ c.begin-stage.result c.take_all.new.self c.args.input.now c.in-Err.fault c.begin-stage.ensures c.in-Err.ensures

pub returns-in-Ok : goal.returns-in-Ok
returns-in-Ok g c =
    play-so g.K.Sink.faults g.K.Sink.wrote c.args.sink.now c.take_all.new.sink _ c.begin-stage.result c.take_all.new.self _ c.args.input.now c.in-Ok.refused
    c.begin-stage.ensures c.stage.view_is c.in-Ok.ensures
