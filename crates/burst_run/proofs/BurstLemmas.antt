-- A burst: what the visits make of the world is what the deliveries make of it in the orders in which the parties took them.
use Rattle.std.proofs.Common.{◌≡◌, ◌∙◌, ℕ, true, List, [], ◌∷◌, length, map, Option, Some, None, refl, sym, ap, subst}
use Rattle.std.specs.Prelude.{is_some}
use Rattle.std.specs.List.{AllByRecursion}
use Rattle.std.specs.Option.{option_map}
use Rattle.std.proofs.lemmas.List.{length-map}
use Rattle.ar_nodes.specs.Finding.{honest_in}
use Rattle.ar_nodes.specs.Parties.{AuthorityNode, LogNode}
use Rattle.ar_nodes.specs.Pool.{Pooled}
use Rattle.ar_statement.specs.Claims.{is_party}
use Rattle.ar_statement.specs.declared.party.Party.{Party}
use Rattle.ar_statement.specs.declared.party.Role.{Role}
use Rattle.ar_statement.specs.declared.party.Role.TheVariants as role
use Rattle.ar_world.specs.Delivering.{a_log, an_authority}
use Rattle.ar_world.specs.Finding.{message_at}
use Rattle.ar_world.specs.Settling.{without_parties}
use Rattle.ar_world.specs.State.{World}
use Rattle.node_core.specs.History.{replies}
use Rattle.node_core.proofs.Histories.{many_replies}
use Rattle.node_crowd.specs.Along.{Abreast}
use Rattle.owner_check.specs.declared.answer.Outcome.{Outcome}
use Rattle.report_text.specs.declared.happening.Happening.{Happening}
use Rattle.seat_orders.specs.Dealing.{dealt_lists}
use Rattle.seat_orders.specs.Orders.{IsInterleaving}
use Rattle.station.specs.Kept.{signed_reply}
use Rattle.station.specs.Station.{StationState, replied_at}
use Rattle.station.specs.declared.delivery.Delivery.{Delivery}
use Rattle.burst_run.specs.Bursts.{AreOrders, IsDeliverable, Sequence, burst_made, station_in, turn_numbers}
use Rattle.burst_run.specs.Laying.{AreAway, Away, Homes, VisitParts, all_back_in, is_in, left_by, left_by_all, visits_settled}
use Rattle.burst_run.specs.Stations.{AreStations, Deliveries, stations_of}
use Rattle.burst_run.specs.Visiting.{AreVisits, IsOwnCall, IsVisit, orders_of, stand_now}
use Rattle.burst_run.proofs.Dealt.{stations_once}
use Rattle.burst_run.proofs.Leaving.{AllInPlace}
use Rattle.burst_run.proofs.Returning.{as_many_on, back_again, many_back_all, many_left_all}
use Rattle.burst_run.proofs.SettlingLemmas.{CallsThere}
use Rattle.burst_run.proofs.StationsLemmas.{are_stations}
use Rattle.burst_run.proofs.Turns.{HasAll, has_itself}
use Rattle.burst_run.proofs.Visits.{all_visited, own_party, places_of, their_numbers, with_homes}

-- ---- what may be brought

pub messages_there : (w rest : World) (deliveries : Deliveries) → rest ≡ without_parties w → AllByRecursion (IsDeliverable w) deliveries
    → AllByRecursion (λ d. is_some (message_at rest d.0) ≡ true) deliveries
messages_there w rest [] is may = tt
messages_there w rest (d ∷ deliveries) is may =
    (ap (λ (v : World). is_some (message_at v d.0)) is ∙ may.0.0, messages_there w rest deliveries is may.1)

was_some : {X Y : Type 0} (f : X → Y) (o : Option X) → is_some (option_map f o) ≡ true → is_some o ≡ true
was_some f None there = absurd cc
was_some f (Some x) there = refl

station_there : (w : World) (r : Role) (n : ℕ) → is_some (station_in w r n) ≡ true → is_in (places_of w) r n ≡ true
station_there w role.LogServer n there = was_some a_log (honest_in w.logs n) there
station_there w role.Authority n there = was_some an_authority (honest_in w.authorities n) there
station_there w role.Owner n there = absurd cc
station_there w role.Client n there = absurd cc

all_in : (w : World) (deliveries : Deliveries) → AllByRecursion (IsDeliverable w) deliveries → AllInPlace (places_of w) deliveries
all_in w [] may = tt
all_in w (d ∷ deliveries) may = (station_there w d.1.role d.1.number may.0.1, all_in w deliveries may.1)

homes_are : (w : World) (logs : List (Option LogNode)) (authorities : List (Option AuthorityNode)) → logs ≡ w.logs → authorities ≡ w.authorities
    → places_of w ≡ record { logs = logs; authorities = authorities }
homes_are w logs authorities are too =
    ap (λ (l : List (Option LogNode)). record (places_of w) { logs = l }) (sym are)
    ∙ ap (λ (l : List (Option AuthorityNode)). record (places_of w) { logs = logs; authorities = l }) (sym too)

pub parties_there : (w : World) (logs : List (Option LogNode)) (authorities : List (Option AuthorityNode)) (deliveries : Deliveries) → logs ≡ w.logs → authorities ≡ w.authorities
    → AllByRecursion (IsDeliverable w) deliveries → AllInPlace (record { logs = logs; authorities = authorities }) deliveries
parties_there w logs authorities deliveries are too may =
    subst (λ (p : Homes). AllInPlace p deliveries) (homes_are w logs authorities are too) (all_in w deliveries may)

-- ---- what visits are

pub as_many_logs : (w : World) (workers : ℕ) (deliveries : Deliveries) (old new : Homes) (visits : List VisitParts) → AreVisits w workers deliveries old new visits
    → length new.logs ≡ length old.logs
as_many_logs w workers deliveries old new visits are =
    let left = left_by_all old (stations_of deliveries) in
    let many = as_many_on old left (all_back_in left (stand_now are.all are.now)) (many_left_all old (stations_of deliveries)) (many_back_all left (stand_now are.all are.now)) in
    ap (λ (p : Homes). length p.logs) are.back ∙ many.logs

each_many : (w : World) (workers : ℕ) (deliveries : Deliveries) (all : List Away) (now : List StationState) (visits : List VisitParts) → Abreast (IsVisit w workers deliveries) all now visits
    → AllByRecursion (λ (v : VisitParts). length v.replies ≡ length v.history) visits
each_many w workers deliveries all now [] each = tt
each_many w workers deliveries [] now (v ∷ visits) each = absurd (let no = each.1 in cc)
each_many w workers deliveries (a ∷ all) [] (v ∷ visits) each = absurd each
each_many w workers deliveries (a ∷ all) (s ∷ now) (v ∷ visits) each = (
  ap length each.0.replied ∙ length-map (replies replied_at a.state v.history) (signed_reply a.keys) ∙ many_replies replied_at a.state v.history,
  each_many w workers deliveries all now visits each.1,
)

pub visits_many : (w : World) (workers : ℕ) (deliveries : Deliveries) (old new : Homes) (visits : List VisitParts) → AreVisits w workers deliveries old new visits
    → AllByRecursion (λ (v : VisitParts). length v.replies ≡ length v.history) visits
visits_many w workers deliveries old new visits are = each_many w workers deliveries are.all are.now visits are.each

calls_there : (w joined : World) (deliveries : Deliveries) (who : Party) (calls : List (Delivery × Option Outcome)) → joined.pool ≡ w.pool → AllByRecursion (IsOwnCall w deliveries who) calls
    → CallsThere joined calls
calls_there w joined deliveries who [] same own = tt
calls_there w joined deliveries who (call ∷ calls) same own =
    (subst (λ (p : List Pooled). is_some (message_at (record w { pool = p }) call.0.message) ≡ true) (sym same) own.0.there, calls_there w joined deliveries who calls same own.1)

each_there : (w joined : World) (workers : ℕ) (deliveries : Deliveries) (all : List Away) (now : List StationState) (visits : List VisitParts) → joined.pool ≡ w.pool
    → Abreast (IsVisit w workers deliveries) all now visits → AllByRecursion (λ (v : VisitParts). CallsThere joined v.history) visits
each_there w joined workers deliveries all now [] same each = tt
each_there w joined workers deliveries [] now (v ∷ visits) same each = absurd (let no = each.1 in cc)
each_there w joined workers deliveries (a ∷ all) [] (v ∷ visits) same each = absurd each
each_there w joined workers deliveries (a ∷ all) (s ∷ now) (v ∷ visits) same each = (
  calls_there w joined deliveries a.party v.history same each.0.own,
  each_there w joined workers deliveries all now visits same each.1,
)

pub visits_there : (w joined : World) (workers : ℕ) (deliveries : Deliveries) (old new : Homes) (visits : List VisitParts) → joined ≡ with_homes w new
    → AreVisits w workers deliveries old new visits → AllByRecursion (λ (v : VisitParts). CallsThere joined v.history) visits
visits_there w joined workers deliveries old new visits is are =
    each_there w joined workers deliveries are.all are.now visits (ap (λ (v : World). v.pool) is) are.each

-- ---- their orders

their_parties : (w : World) (workers : ℕ) (deliveries : Deliveries) (places : Homes) (stations : List Party) (all : List Away) (now : List StationState) (visits : List VisitParts)
    → AreAway places stations all → Abreast (IsVisit w workers deliveries) all now visits → stations ≡ map (λ o. o.party) (orders_of visits)
their_parties w workers deliveries places [] [] now [] stand each = refl
their_parties w workers deliveries places [] [] now (v ∷ visits) stand each = absurd (let no = each.1 in cc)
their_parties w workers deliveries places [] (a ∷ all) now visits stand each = absurd cc
their_parties w workers deliveries places (who ∷ stations) [] now visits stand each = absurd stand
their_parties w workers deliveries places (who ∷ stations) (a ∷ all) [] visits stand each = absurd each
their_parties w workers deliveries places (who ∷ stations) (a ∷ all) (s ∷ now) [] stand each = absurd each
their_parties w workers deliveries places (who ∷ stations) (a ∷ all) (s ∷ now) (v ∷ visits) stand each =
    ap (λ (p : Party). p ∷ stations) (sym (each.0.party ∙ own_party places who.role who.number a stand.0))
    ∙ ap (λ l. v.party ∷ l) (their_parties w workers deliveries (left_by places who) stations all now visits stand.1 each.1)

abbrev IsOrder : ℕ → Deliveries → Sequence → Type 0
IsOrder workers deliveries o = IsInterleaving (turn_numbers o.turns) (dealt_lists workers (λ d. is_party o.party d.1) deliveries)

each_order : (w : World) (workers : ℕ) (deliveries : Deliveries) (all : List Away) (now : List StationState) (visits : List VisitParts) → Abreast (IsVisit w workers deliveries) all now visits
    → AllByRecursion (IsOrder workers deliveries) (orders_of visits)
each_order w workers deliveries all now [] each = tt
each_order w workers deliveries [] now (v ∷ visits) each = absurd (let no = each.1 in cc)
each_order w workers deliveries (a ∷ all) [] (v ∷ visits) each = absurd each
each_order w workers deliveries (a ∷ all) (s ∷ now) (v ∷ visits) each = (
  subst (λ l. IsInterleaving l (dealt_lists workers (λ d. is_party v.party d.1) deliveries)) (sym (their_numbers v.history))
      (subst (λ (p : Party). IsInterleaving (map (λ call. call.0.j) v.history) (dealt_lists workers (λ d. is_party p d.1) deliveries)) (sym each.0.party) each.0.order),
  each_order w workers deliveries all now visits each.1,
)

orders_are : (w : World) (workers : ℕ) (deliveries : Deliveries) (old new : Homes) (visits : List VisitParts) → AreVisits w workers deliveries old new visits
    → AreOrders workers deliveries (orders_of visits)
orders_are w workers deliveries old new visits are = record {
  parties = subst (λ l. AreStations deliveries l) (their_parties w workers deliveries old (stations_of deliveries) are.all are.now visits are.stand are.each) (are_stations deliveries);
  each = each_order w workers deliveries are.all are.now visits are.each;
}

-- ---- all of it

joined_is : (w rest joined : World) (workers : ℕ) (deliveries : Deliveries) (new : Homes) (visits : List VisitParts) → rest ≡ without_parties w
    → (are : AreVisits rest workers deliveries (places_of w) new visits) → joined ≡ with_homes rest new → joined ≡ with_homes w (all_back_in (places_of w) (stand_now are.all are.now))
joined_is w rest joined workers deliveries new visits is are joins =
    let stations = stations_of deliveries in
    joins
    ∙ ap (λ (v : World). with_homes v new) is
    ∙ ap (λ (p : Homes). with_homes w p)
    (are.back ∙ back_again rest workers deliveries (places_of w) stations are.all are.now visits (stations_once deliveries stations (are_stations deliveries)) are.stand are.each)

pub burst_is : (w rest joined made : World) (workers : ℕ) (deliveries : Deliveries) (new : Homes) (visits : List VisitParts) (said : List Happening) → rest ≡ without_parties w
    → AreVisits rest workers deliveries (places_of w) new visits → joined ≡ with_homes rest new → (made, said) ≡ visits_settled joined visits
    → (orders : List Sequence) × AreOrders workers deliveries orders × (burst_made deliveries w orders ≡ (made, said))
burst_is w rest joined made workers deliveries new visits said is are joins settles = (
  orders_of visits,
  orders_are rest workers deliveries (places_of w) new visits are,
  all_visited deliveries rest workers (stations_of deliveries) are.all are.now visits w
      (subst (λ (p : List Pooled). HasAll p w.pool) (sym (ap (λ (v : World). v.pool) is)) (has_itself w.pool)) are.stand are.each
      ∙ ap (λ (v : World). visits_settled v visits) (sym (joined_is w rest joined workers deliveries new visits is are joins))
      ∙ sym settles,
)

pub burst_of : (w rest joined made : World) (workers : ℕ) (deliveries : Deliveries) (logs : List (Option LogNode)) (authorities : List (Option AuthorityNode)) (new : Homes) (visits : List VisitParts)
    (said : List Happening) → rest ≡ without_parties w → logs ≡ w.logs → authorities ≡ w.authorities → AreVisits rest workers deliveries (record { logs = logs; authorities = authorities }) new visits
    → joined ≡ with_homes rest new → (made, said) ≡ visits_settled joined visits
    → (orders : List Sequence) × AreOrders workers deliveries orders × (burst_made deliveries w orders ≡ (made, said))
burst_of w rest joined made workers deliveries logs authorities new visits said is logs_are authorities_are are joins settles =
    burst_is w rest joined made workers deliveries new visits said is
    (subst (λ (p : Homes). AreVisits rest workers deliveries p new visits) (sym (homes_are w logs authorities logs_are authorities_are)) are) joins settles
