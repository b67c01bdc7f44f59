-- What workers brought to the stations is what their visits are.
use Rattle.std.proofs.Common.{rules, ◌≡◌, ◌∙◌, true, ap, map, sym, subst}
use Rattle.std.proofs.lemmas.List.{length-map}
use Rattle.std.specs.List.{AllByRecursion}
use Rattle.ar_statement.specs.Claims.{has_party}
use Rattle.station.specs.Station.{station_told}
use Rattle.burst_run.specs.Laying.{AreAway, CanLeave, apart_with, errands_from, homes_in, left_by_all}
use Rattle.burst_run.proofs.JoiningLemmas.{visit_with}
use Rattle.burst_run.proofs.Leaving.{found_leave, found_there}
use Rattle.burst_run.proofs.Together.{errands_on, found_kept, found_places, found_visits}
use Rattle.burst_run.proofs.burst.visit_all.Goals as goal

pub errands_of-requires-clause-stations : goal.errands_of-requires-clause-stations
errands_of-requires-clause-stations g c =
    subst (λ l. AllByRecursion (λ d. has_party l d.1 ≡ true) c.args.deliveries.now) (sym c.deref.ensures.value)
    (found_there (homes_in c.args.parties.now) c.args.deliveries.now c.in_ok-stations.stations.items c.in_ok-stations.ensures c.requires.parties)

pub desks_of-requires : goal.desks_of-requires
desks_of-requires g c = (
  search rules,
  subst (CanLeave (homes_in c.args.parties.now)) (sym c.deref-2.ensures.value)
      (found_leave (homes_in c.args.parties.now) c.args.deliveries.now c.in_ok-stations.stations.items c.in_ok-stations.ensures c.requires.parties),
)

pub bring-requires-clause-there : goal.bring-requires-clause-there
bring-requires-clause-there g c κs within =
    errands_on c.args.world.now (homes_in c.args.parties.now) c.args.deliveries.now c.in_ok-stations.stations.items c.in_ok-errands.errands.items _
    (map (λ desk. apart_with desk.finish (station_told g.C.OwnerCheck.told g.C.OwnerCheck.answers desk.core)) c.in_ok-desks.desks.items) c.in_ok-stations.ensures c.requires.parties
    (c.in_ok-errands.ensures ∙ ap (λ l. errands_from c.args.world.now l 0 c.args.deliveries.now) c.deref.ensures.value)
    (subst (λ l. AreAway (homes_in c.args.parties.now) l
    (map (λ desk. apart_with desk.finish (station_told g.C.OwnerCheck.told g.C.OwnerCheck.answers desk.core)) c.in_ok-desks.desks.items)) c.deref-2.ensures.value c.in_ok-desks.ensures.stand)
    (length-map c.in_ok-desks.desks.items (λ desk. apart_with desk.finish (station_told g.C.OwnerCheck.told g.C.OwnerCheck.answers desk.core)))

pub put_all_back-requires-clause-kept : goal.put_all_back-requires-clause-kept
put_all_back-requires-clause-kept g c κs within =
    found_kept (λ desk. apart_with desk.finish (station_told g.C.OwnerCheck.told g.C.OwnerCheck.answers desk.core))
    (λ taken. station_told g.C.OwnerCheck.told g.C.OwnerCheck.answers taken.core)
    (λ taken. apart_with taken.finish (station_told g.C.OwnerCheck.told g.C.OwnerCheck.answers taken.core))
    (λ taken. visit_with taken.finish.party taken.history.items taken.replies.items) (λ desk. desk.finish) (λ taken. taken.finish)
    (record {
      party = λ d t same. ap (λ s. s.party) same;
      back_is = λ d t same. ap (λ s. apart_with s (station_told g.C.OwnerCheck.told g.C.OwnerCheck.answers t.core)) (sym same);
    })
    c.args.world.now c.args.workers c.args.deliveries.now (homes_in c.args.parties.now) (homes_in c.desks_of.new.parties) c.in_ok-stations.stations.items c.in_ok-errands.errands.items
    c.in_ok-desks.desks.items c.in_ok-all.all.items
    (record {
      found = c.in_ok-stations.ensures;
      there = c.requires.parties;
      messages = c.requires.messages;
      made = c.in_ok-errands.ensures ∙ ap (λ l. errands_from c.args.world.now l 0 c.args.deliveries.now) c.deref.ensures.value;
      stand = subst (λ l. AreAway (homes_in c.args.parties.now) l
          (map (λ desk. apart_with desk.finish (station_told g.C.OwnerCheck.told g.C.OwnerCheck.answers desk.core)) c.in_ok-desks.desks.items)) c.deref-2.ensures.value c.in_ok-desks.ensures.stand;
      leaves = c.in_ok-desks.ensures.left ∙ ap (left_by_all (homes_in c.args.parties.now)) c.deref-2.ensures.value;
      kept = c.in_ok-desks.ensures.kept;
      finish = c.in_ok-all.ensures.finish;
      taken = c.in_ok-all.ensures.taken;
      orders = c.in_ok-all.ensures.orders;
    })

pub put_all_back-requires-clause-places : goal.put_all_back-requires-clause-places
put_all_back-requires-clause-places g c κs within =
    found_places (λ desk. apart_with desk.finish (station_told g.C.OwnerCheck.told g.C.OwnerCheck.answers desk.core))
    (λ taken. station_told g.C.OwnerCheck.told g.C.OwnerCheck.answers taken.core)
    (λ taken. apart_with taken.finish (station_told g.C.OwnerCheck.told g.C.OwnerCheck.answers taken.core))
    (λ taken. visit_with taken.finish.party taken.history.items taken.replies.items) (λ desk. desk.finish) (λ taken. taken.finish)
    (record {
      party = λ d t same. ap (λ s. s.party) same;
      back_is = λ d t same. ap (λ s. apart_with s (station_told g.C.OwnerCheck.told g.C.OwnerCheck.answers t.core)) (sym same);
    })
    c.args.world.now c.args.workers c.args.deliveries.now (homes_in c.args.parties.now) (homes_in c.desks_of.new.parties) c.in_ok-stations.stations.items c.in_ok-errands.errands.items
    c.in_ok-desks.desks.items c.in_ok-all.all.items
    (record {
      found = c.in_ok-stations.ensures;
      there = c.requires.parties;
      messages = c.requires.messages;
      made = c.in_ok-errands.ensures ∙ ap (λ l. errands_from c.args.world.now l 0 c.args.deliveries.now) c.deref.ensures.value;
      stand = subst (λ l. AreAway (homes_in c.args.parties.now) l
          (map (λ desk. apart_with desk.finish (station_told g.C.OwnerCheck.told g.C.OwnerCheck.answers desk.core)) c.in_ok-desks.desks.items)) c.deref-2.ensures.value c.in_ok-desks.ensures.stand;
      leaves = c.in_ok-desks.ensures.left ∙ ap (left_by_all (homes_in c.args.parties.now)) c.deref-2.ensures.value;
      kept = c.in_ok-desks.ensures.kept;
      finish = c.in_ok-all.ensures.finish;
      taken = c.in_ok-all.ensures.taken;
      orders = c.in_ok-all.ensures.orders;
    })

pub returns : goal.returns
returns g c =
    found_visits (λ desk. apart_with desk.finish (station_told g.C.OwnerCheck.told g.C.OwnerCheck.answers desk.core))
    (λ taken. station_told g.C.OwnerCheck.told g.C.OwnerCheck.answers taken.core)
    (λ taken. apart_with taken.finish (station_told g.C.OwnerCheck.told g.C.OwnerCheck.answers taken.core))
    (λ taken. visit_with taken.finish.party taken.history.items taken.replies.items) (λ desk. desk.finish) (λ taken. taken.finish)
    (record {
      party = λ d t same. ap (λ s. s.party) same;
      back_is = λ d t same. ap (λ s. apart_with s (station_told g.C.OwnerCheck.told g.C.OwnerCheck.answers t.core)) (sym same);
    })
    c.args.world.now c.args.workers c.args.deliveries.now (homes_in c.args.parties.now) (homes_in c.desks_of.new.parties) c.in_ok-stations.stations.items c.in_ok-errands.errands.items
    c.in_ok-desks.desks.items c.in_ok-all.all.items
    (record {
      found = c.in_ok-stations.ensures;
      there = c.requires.parties;
      messages = c.requires.messages;
      made = c.in_ok-errands.ensures ∙ ap (λ l. errands_from c.args.world.now l 0 c.args.deliveries.now) c.deref.ensures.value;
      stand = subst (λ l. AreAway (homes_in c.args.parties.now) l
          (map (λ desk. apart_with desk.finish (station_told g.C.OwnerCheck.told g.C.OwnerCheck.answers desk.core)) c.in_ok-desks.desks.items)) c.deref-2.ensures.value c.in_ok-desks.ensures.stand;
      leaves = c.in_ok-desks.ensures.left ∙ ap (left_by_all (homes_in c.args.parties.now)) c.deref-2.ensures.value;
      kept = c.in_ok-desks.ensures.kept;
      finish = c.in_ok-all.ensures.finish;
      taken = c.in_ok-all.ensures.taken;
      orders = c.in_ok-all.ensures.orders;
    })
    (homes_in c.put_all_back.new.parties) c.in_ok-visits.visits.items c.in_ok-visits.ensures.back c.in_ok-visits.ensures.visits
