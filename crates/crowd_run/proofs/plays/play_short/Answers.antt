-- A script that is played to its end.
use Rattle.script_play.proofs.Inputs.{short-done}
use Rattle.crowd_run.specs.Scripts.{crowd_with}
use Rattle.crowd_run.proofs.plays.play_short.Goals as goal

pub returns-in-Ok-clause-played : goal.returns-in-Ok-clause-played
returns-in-Ok-clause-played g c = λ few.
    short-done (crowd_with c.args.workers _) g.K.Sink.faults g.K.Sink.wrote c.args.sink.now c.play.new.sink c.args.script.now c.in-Ok.played c.status.result
    c.in-Ok.ensures few c.status.ensures.status
