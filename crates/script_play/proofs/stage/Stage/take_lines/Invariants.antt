-- What takes the lines that are left has taken all of them.
use Rattle.std.proofs.Common.{length}
use Rattle.script_play.proofs.Runs.{LinesOn}
use Rattle.script_play.proofs.stage.Stage.take_lines.Given as goal

abbrev pub invariant-loop-line : goal.invariant-loop-line
invariant-loop-line g l = LinesOn g.K.Sink.faults g.K.Sink.wrote l.fn.sink l.sink l.fn.self l.self l.fn.lines l.lines

abbrev pub decreases-loop-line : goal.decreases-loop-line
decreases-loop-line g l = length l.lines.ahead
