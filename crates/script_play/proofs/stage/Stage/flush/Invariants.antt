-- What makes the deliveries that are left has made all of them, and nothing is due of the messages in front.
use Rattle.std.proofs.Common.{◌-◌}
use Rattle.ar_world.specs.Delivering.{NothingDue}
use Rattle.ar_world.specs.Run.{most_deliveries}
use Rattle.script_play.proofs.Deliveries.{FlushesOn}
use Rattle.script_play.proofs.stage.Stage.flush.Given as goal

abbrev pub invariant-loop-number : goal.invariant-loop-number
invariant-loop-number g l =
    FlushesOn g.K.Sink.faults g.K.Sink.wrote l.fn.sink l.sink l.fn.self l.self most_deliveries (most_deliveries - l._number) l._number
    × NothingDue l.self.world l.front
