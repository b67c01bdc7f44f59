-- What tells the happenings that are left has told all of them.
use Rattle.std.proofs.Common.{drop}
use Rattle.script_play.proofs.Written.{TellsOn}
use Rattle.script_play.proofs.telling.tell.Given as goal

abbrev pub invariant-loop-happening : goal.invariant-loop-happening
invariant-loop-happening g l =
    TellsOn g.K.Sink.faults g.K.Sink.wrote l.fn.sink l.sink l.fn.counts l.counts l.said (drop l.happening-index l.said)
