-- What workers brought to the parties of a world that stood apart from it, and how these come back.
use Rattle.std.specs.Prelude.{◌≡◌, ℕ, List, [], ◌∷◌, map, slice_get, is_some, true, Option, Some}
use Rattle.std.specs.List.{AllByRecursion}
use Rattle.ar_nodes.specs.Acting.{bytes_of}
use Rattle.ar_statement.specs.Claims.{is_party}
use Rattle.ar_statement.specs.declared.party.Party.{Party}
use Rattle.ar_world.specs.Finding.{message_at}
use Rattle.ar_world.specs.State.{World}
use Rattle.node_core.specs.History.{Replays, replies}
use Rattle.node_crowd.specs.Along.{Abreast}
use Rattle.owner_check.specs.declared.answer.Outcome.{Outcome}
use Rattle.seat_orders.specs.Dealing.{dealt_lists}
use Rattle.seat_orders.specs.Orders.{IsInterleaving}
use Rattle.station.specs.Kept.{IsStation, signed_reply}
use Rattle.station.specs.Station.{IsNoted, StationState, replied_at}
use Rattle.station.specs.declared.delivery.Delivery.{Delivery}
use Rattle.burst_run.specs.Bursts.{Sequence}
use Rattle.burst_run.specs.Laying.{Away, Homes, AreAway, VisitParts, all_back_in, left_by_all, turn_for}
use Rattle.burst_run.specs.Stations.{Deliveries, stations_of}

-- a call is of the delivery with its number, which goes to this party, and brings the message that it is of
pub record IsOwnCall (w : World) (deliveries : Deliveries) (who : Party) (call : Delivery × Option Outcome) : Type 0 where
  pub delivery : slice_get deliveries call.0.j ≡ Some (call.0.message, who)
  pub there : is_some (message_at w call.0.message) ≡ true
  pub bytes : call.0.bytes ≡ bytes_of (message_at w call.0.message)

-- What so many workers brought to a party that stood apart so, and how its station stands then: the calls are its deliveries of the burst,
-- in an order that is an interleaving of what the workers have for it; and the replies are those to the calls, signed.
pub record IsVisit (w : World) (workers : ℕ) (deliveries : Deliveries) (apart : Away) (now : StationState) (visit : VisitParts) : Type 0 where
  pub party : visit.party ≡ apart.party
  pub kept : IsStation apart.state apart.keys
  pub replays : Replays replied_at IsNoted apart.state visit.history now
  pub replied : visit.replies ≡ map (signed_reply apart.keys) (replies replied_at apart.state visit.history)
  pub own : AllByRecursion (IsOwnCall w deliveries apart.party) visit.history
  pub order : IsInterleaving (map (λ call. call.0.j) visit.history) (dealt_lists workers (λ d. is_party apart.party d.1) deliveries)

-- parties that stand apart, as their stations stand now
abbrev pub stand_now : List Away → List StationState → List Away
stand_now [] now = []
stand_now (apart ∷ all) [] = []
stand_now (apart ∷ all) (state ∷ now) = record apart { state = state } ∷ stand_now all now

-- The parties that take deliveries of a burst left their places, were visited, and came back.
pub record AreVisits (w : World) (workers : ℕ) (deliveries : Deliveries) (old new : Homes) (visits : List VisitParts) : Type 0 where
  pub all : List Away
  pub now : List StationState
  pub stand : AreAway old (stations_of deliveries) all
  pub each : Abreast (IsVisit w workers deliveries) all now visits
  pub back : new ≡ all_back_in (left_by_all old (stations_of deliveries)) (stand_now all now)

-- the orders in which parties were visited
abbrev pub orders_of : List VisitParts → List Sequence
orders_of visits = map (λ v. record { party = v.party; turns = map turn_for v.history }) visits
