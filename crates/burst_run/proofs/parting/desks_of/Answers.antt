-- One more leaves.
use Rattle.std.proofs.lemmas.List.{get_or_default}
use Rattle.station.specs.Kept.{IsStation}
use Rattle.station.specs.Station.{station_told}
use Rattle.burst_run.specs.Laying.{apart_with, homes_in}
use Rattle.burst_run.proofs.PartingLemmas.{leaves_next}
use Rattle.burst_run.proofs.parting.desks_of.Goals as goal

pub loop-station-preserved : goal.loop-station-preserved
loop-station-preserved g c =
    leaves_next (λ desk. apart_with desk.finish (station_told g.C.OwnerCheck.told g.C.OwnerCheck.answers desk.core))
    (λ desk. IsStation (station_told g.C.OwnerCheck.told g.C.OwnerCheck.answers desk.core) desk.finish.ring.keys)
    (homes_in c.args.parties.now) c.args.stations.now (homes_in c.loop-station.parties) (homes_in c.desk.new.parties) c.loop-station.station-index _ c.loop-station.desks.items _ c.desk.result
    c.loop-station-test.true (get_or_default c.args.stations.now c.loop-station.station-index _ _ c.loop-station-test.true) c.desk.ensures.stands c.desk.ensures.kept c.desk.ensures.left c.in_ok-push.ensures.items c.loop-station.invariant
