-- One more comes back, and all are back.
use Rattle.std.proofs.Common.{◌≡◌, ◌∙◌, [], length, map, ap, arith, sym}
use Rattle.std.proofs.lemmas.List.{nil_from_length}
use Rattle.std.specs.Vec.Iter.{into_iter_items}
use Rattle.station.specs.Kept.{IsStation}
use Rattle.station.specs.Station.{station_told}
use Rattle.burst_run.specs.Laying.{all_back_in, apart_with, homes_in}
use Rattle.burst_run.proofs.JoiningLemmas.{back_end, back_next, told_end, visit_with}
use Rattle.burst_run.proofs.joining.put_all_back.Goals as goal

pub loop-taken-preserved : goal.loop-taken-preserved
loop-taken-preserved g c = (
  back_next (λ taken. apart_with taken.finish (station_told g.C.OwnerCheck.told g.C.OwnerCheck.answers taken.core))
      (λ taken. visit_with taken.finish.party taken.history.items taken.replies.items)
      (λ taken. IsStation (station_told g.C.OwnerCheck.told g.C.OwnerCheck.answers taken.core) taken.finish.ring.keys)
      (homes_in c.args.parties.now) (into_iter_items c.into_iter-taken-iterator.result) (homes_in c.loop-taken.parties) (homes_in c.put_back.new.parties) c.in-Some.taken
      (into_iter_items c.loop-taken.taken-iterator) (into_iter_items c.next.new.self) c.loop-taken.visits.items _ c.in-Some.ensures.steps.0 c.put_back.ensures c.in_ok-push.ensures.items
      c.loop-taken.invariant.0,
  (let long = c.loop-taken.invariant.1 in let one = c.in-Some.ensures.steps.1 in let items = ap length c.in-Some.ensures.steps.0 in omega (arith, long, one, items)),
)

pub returns-clause-back : goal.returns-clause-back
returns-clause-back g c =
    let none : into_iter_items c.loop-taken.taken-iterator ≡ [] = nil_from_length (into_iter_items c.loop-taken.taken-iterator) (sym c.loop-taken.invariant.1 ∙ c.in-None.ensures.steps.0) in
    back_end (λ taken. apart_with taken.finish (station_told g.C.OwnerCheck.told g.C.OwnerCheck.answers taken.core))
    (λ taken. visit_with taken.finish.party taken.history.items taken.replies.items)
    (λ taken. IsStation (station_told g.C.OwnerCheck.told g.C.OwnerCheck.answers taken.core) taken.finish.ring.keys)
    (homes_in c.args.parties.now) (into_iter_items c.into_iter-taken-iterator.result) (homes_in c.loop-taken.parties) (into_iter_items c.loop-taken.taken-iterator) c.loop-taken.visits.items none
    c.loop-taken.invariant.0
    ∙ ap (λ l. all_back_in (homes_in c.args.parties.now) (map (λ taken. apart_with taken.finish (station_told g.C.OwnerCheck.told g.C.OwnerCheck.answers taken.core)) l))
    c.into_iter-taken-iterator.ensures.into_iter_gives.0

pub returns-clause-visits : goal.returns-clause-visits
returns-clause-visits g c =
    let none : into_iter_items c.loop-taken.taken-iterator ≡ [] = nil_from_length (into_iter_items c.loop-taken.taken-iterator) (sym c.loop-taken.invariant.1 ∙ c.in-None.ensures.steps.0) in
    told_end (λ taken. apart_with taken.finish (station_told g.C.OwnerCheck.told g.C.OwnerCheck.answers taken.core))
    (λ taken. visit_with taken.finish.party taken.history.items taken.replies.items)
    (λ taken. IsStation (station_told g.C.OwnerCheck.told g.C.OwnerCheck.answers taken.core) taken.finish.ring.keys)
    (homes_in c.args.parties.now) (into_iter_items c.into_iter-taken-iterator.result) (homes_in c.loop-taken.parties) (into_iter_items c.loop-taken.taken-iterator) c.loop-taken.visits.items none
    c.loop-taken.invariant.0
    ∙ ap (λ l. map (λ taken. visit_with taken.finish.party taken.history.items taken.replies.items) l) c.into_iter-taken-iterator.ensures.into_iter_gives.0
