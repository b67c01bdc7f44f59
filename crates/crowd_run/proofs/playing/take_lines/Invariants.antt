-- What takes the lines that are left has taken all of them, and the burst that is open can be made.
use Rattle.std.proofs.Common.{length}
use Rattle.crowd_run.specs.Passing.{IsOpenIn}
use Rattle.crowd_run.proofs.LineLemmas.{CrowdsOn}
use Rattle.crowd_run.proofs.playing.take_lines.Given as goal

abbrev pub invariant-loop-line : goal.invariant-loop-line
invariant-loop-line g l =
    record {
      on : CrowdsOn g.K.Sink.faults g.K.Sink.wrote l.fn.sink l.sink l.workers l.fn.stage l.stage l.burst l.fn.lines l.lines;
      ready : IsOpenIn l.stage.world l.burst;
    }

abbrev pub decreases-loop-line : goal.decreases-loop-line
decreases-loop-line g l = length l.lines.ahead
