-- The line is taken as it was read.
use Rattle.script_play.proofs.Taking.{text-taken}
use Rattle.script_play.proofs.stage.Stage.take_text.Goals as goal

pub returns : goal.returns
returns g c =
    text-taken g.K.Sink.faults g.K.Sink.wrote c.args.sink.now c.take_read.new.sink c.args.self.now c.take_read.new.self c.args.number c.args.text.now _ c.take_read.result c.read_line.ensures c.take_read.ensures.plays
