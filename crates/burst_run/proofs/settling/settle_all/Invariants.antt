-- The visits that are left make of the world what all of them did.
use Rattle.std.proofs.Common.{◌≡◌, length}
use Rattle.std.specs.Vec.Iter.{into_iter_items, into_iter_len}
use Rattle.burst_run.proofs.SettlingLemmas.{StillVisits}
use Rattle.burst_run.proofs.settling.settle_all.Given as goal

abbrev pub invariant-loop-visit : goal.invariant-loop-visit
invariant-loop-visit g l =
    StillVisits l.initial.world (into_iter_items l.initial.visit-iterator) l.world l.said.items (into_iter_items l.visit-iterator)
    × (into_iter_len l.visit-iterator ≡ length (into_iter_items l.visit-iterator))
