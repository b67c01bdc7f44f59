-- Nothing follows an event that is no flush.
use Rattle.script_text.specs.declared.line.Line.TheVariants as line
use Rattle.script_play.proofs.Taking.{follow-none, follows-none}
use Rattle.script_play.proofs.stage.Stage.follow_event.Goals as goal

pub returns-in_default : goal.returns-in_default
returns-in_default g c = follow-none g.K.Sink.faults g.K.Sink.wrote c.args.sink.now c.args.self.now (line.Event c.args.event.now) (follows-none c.args.event.now c.in_default.not-Flush)
