-- With those of the deliveries that are left they are those of all.
use Rattle.std.proofs.Common.{◌≡◌, ◌++◌, drop}
use Rattle.burst_run.specs.Laying.{errands_from}
use Rattle.burst_run.proofs.errands.errands_of.Given as goal

abbrev pub invariant-loop-place : goal.invariant-loop-place
invariant-loop-place g l = l.errands.items ++ errands_from l.world l.stations l.place (drop l.place l.deliveries) ≡ errands_from l.world l.stations 0 l.deliveries
