-- Those that are left come back to where all do, and are told behind the others.
use Rattle.std.proofs.Common.{◌≡◌, length}
use Rattle.std.specs.Vec.Iter.{into_iter_items, into_iter_len}
use Rattle.station.specs.Kept.{IsStation}
use Rattle.station.specs.Station.{station_told}
use Rattle.burst_run.specs.Laying.{apart_with, homes_in}
use Rattle.burst_run.proofs.JoiningLemmas.{StillBack, visit_with}
use Rattle.burst_run.proofs.joining.put_all_back.Given as goal

abbrev pub invariant-loop-taken : goal.invariant-loop-taken
invariant-loop-taken g l =
    StillBack (λ taken. apart_with taken.finish (station_told g.C.OwnerCheck.told g.C.OwnerCheck.answers taken.core))
    (λ taken. visit_with taken.finish.party taken.history.items taken.replies.items)
    (λ taken. IsStation (station_told g.C.OwnerCheck.told g.C.OwnerCheck.answers taken.core) taken.finish.ring.keys)
    (homes_in l.initial.parties) (into_iter_items l.initial.taken-iterator) (homes_in l.parties) (into_iter_items l.taken-iterator) l.visits.items
    × (into_iter_len l.taken-iterator ≡ length (into_iter_items l.taken-iterator))
