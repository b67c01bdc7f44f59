-- Those that are left are still in their places, and the desks are of the others.
use Rattle.std.proofs.Common.{drop}
use Rattle.station.specs.Kept.{IsStation}
use Rattle.station.specs.Station.{station_told}
use Rattle.burst_run.specs.Laying.{apart_with, homes_in}
use Rattle.burst_run.proofs.PartingLemmas.{StillLeaves}
use Rattle.burst_run.proofs.parting.desks_of.Given as goal

abbrev pub invariant-loop-station : goal.invariant-loop-station
invariant-loop-station g l =
    StillLeaves (λ desk. apart_with desk.finish (station_told g.C.OwnerCheck.told g.C.OwnerCheck.answers desk.core))
    (λ desk. IsStation (station_told g.C.OwnerCheck.told g.C.OwnerCheck.answers desk.core) desk.finish.ring.keys)
    (homes_in l.initial.parties) l.stations (homes_in l.parties) (drop l.station-index l.stations) l.desks.items
