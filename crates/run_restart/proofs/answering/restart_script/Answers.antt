-- Each honest log of a run is what its inputs make of a new one.
use Rattle.ar_io.specs.QuietSink.{Took}
use Rattle.run_restart.proofs.Played.{played-replayed}
use Rattle.run_restart.proofs.answering.restart_script.Goals as goal

pub restart_played-requires : goal.restart_played-requires
restart_played-requires g c =
    played-replayed (λ _. 0) Took c.new-quiet.result c.play.new.sink _ c.args.script.now c.in-Ok.played c.in-Ok.ensures c.args.asked.log
