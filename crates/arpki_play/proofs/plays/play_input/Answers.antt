-- Memory that runs out leaves a front of what is written.
use Rattle.arpki_play.proofs.Played.{input-memory}
use Rattle.arpki_play.proofs.plays.play_input.Goals as goal

pub returns-in-Ok-clause-memory : goal.returns-in-Ok-clause-memory
returns-in-Ok-clause-memory g c =
    let read = c.in-Ok.ensures.ok in
    input-memory g.K.Sink.faults g.K.Sink.wrote c.args.sink.now c.play_script.new.sink _ read.0 _ _ c.play_script.result read.1
    (c.play_script.ensures.played read.0 read.2)
