-- An input that was taken is played, or breaks off.
use Rattle.crowd_run.proofs.Inputs.{input_answered, input_cut, input_memory}
use Rattle.crowd_run.proofs.plays.play_input.Goals as goal

pub returns-in-Ok-clause-ok : goal.returns-in-Ok-clause-ok
returns-in-Ok-clause-ok g c =
    let read = c.in-Ok.ensures.ok in
    input_answered g.K.Sink.faults g.K.Sink.wrote c.args.sink.now c.play_script.new.sink c.args.workers _ read.0 _ _ c.play_script.result read.1
    (c.play_script.ensures.played read.0 read.2)

pub returns-in-Ok-clause-sink : goal.returns-in-Ok-clause-sink
returns-in-Ok-clause-sink g c =
    let read = c.in-Ok.ensures.ok in
    input_cut g.K.Sink.faults g.K.Sink.wrote c.args.sink.now c.play_script.new.sink c.args.workers _ read.0 _ _ c.play_script.result read.1
    (c.play_script.ensures.played read.0 read.2)

pub returns-in-Ok-clause-memory : goal.returns-in-Ok-clause-memory
returns-in-Ok-clause-memory g c =
    let read = c.in-Ok.ensures.ok in
    input_memory g.K.Sink.faults g.K.Sink.wrote c.args.sink.now c.play_script.new.sink c.args.workers _ read.0 _ _ c.play_script.result read.1
    (c.play_script.ensures.played read.0 read.2)
