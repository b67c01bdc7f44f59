-- Nothing follows a line of another kind.
use Rattle.script_play.proofs.Taking.{follow-none, plain-none}
use Rattle.script_play.proofs.stage.Stage.follow.Goals as goal

pub returns-in-Setup : goal.returns-in-Setup
returns-in-Setup g c = follow-none g.K.Sink.faults g.K.Sink.wrote c.args.sink.now c.args.self.now c.args.line.now (plain-none c.args.line.now c.in-Setup.is)

pub returns-in-Setup-2 : goal.returns-in-Setup-2
returns-in-Setup-2 g c = follow-none g.K.Sink.faults g.K.Sink.wrote c.args.sink.now c.args.self.now c.args.line.now (plain-none c.args.line.now c.in-Setup.is)

pub returns-in-Setup-3 : goal.returns-in-Setup-3
returns-in-Setup-3 g c = follow-none g.K.Sink.faults g.K.Sink.wrote c.args.sink.now c.args.self.now c.args.line.now (plain-none c.args.line.now c.in-Setup.is)
