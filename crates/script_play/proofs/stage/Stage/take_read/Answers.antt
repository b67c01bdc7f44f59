-- A line that is skipped, and one that could not be read.
use Rattle.std.proofs.Common.{◌≡◌, None, Ok, Err}
use Rattle.script_play.proofs.Taking.{read-skipped, read-unread}
use Rattle.script_play.proofs.stage.Stage.take_read.Goals as goal

pub returns-in-Ok-None-clause-plays : goal.returns-in-Ok-None-clause-plays
returns-in-Ok-None-clause-plays g c =
    let is : c.args.read ≡ Ok None = cc in
    read-skipped g.K.Sink.faults g.K.Sink.wrote c.args.sink.now c.args.self.now c.args.read is

pub returns-in-Err-clause-plays : goal.returns-in-Err-clause-plays
returns-in-Err-clause-plays g c =
    let is : c.args.read ≡ Err c.in-Err.reason = cc in
    read-unread g.K.Sink.faults g.K.Sink.wrote c.args.sink.now c.args.self.now c.args.read c.in-Err.reason is
