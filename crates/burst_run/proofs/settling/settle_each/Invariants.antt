-- What is left to settle makes of the world what all of it did.
use Rattle.std.proofs.Common.{◌≡◌, length}
use Rattle.std.specs.Vec.Iter.{into_iter_items, into_iter_len}
use Rattle.burst_run.proofs.SettlingLemmas.{StillSettles}
use Rattle.burst_run.proofs.settling.settle_each.Given as goal

abbrev pub invariant-loop-delivery : goal.invariant-loop-delivery
invariant-loop-delivery g l =
    StillSettles l.initial.world l.initial.said.items l.party (into_iter_items l.initial.delivery-iterator) (into_iter_items l.initial.rest)
    l.world l.said.items (into_iter_items l.delivery-iterator) (into_iter_items l.rest)
    × (into_iter_len l.rest ≡ length (into_iter_items l.rest))
    × (into_iter_len l.delivery-iterator ≡ length (into_iter_items l.delivery-iterator))
