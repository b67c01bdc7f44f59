-- A burst: deliveries of a world that several workers bring at once. Each party takes its own in some order, and the world is what it
-- is where they are made in these orders, one after the other.
use Rattle.std.specs.Prelude.{◌≡◌, ℕ, nat_lt, List, [], ◌∷◌, length, map, slice_get, is_some, true, Option, Some, None, Result}
use Rattle.std.specs.List.{AllByRecursion}
use Rattle.std.specs.Option.{option_map}
use Rattle.ar_base.specs.Chaining.{◌>>=◌, need}
use Rattle.ar_nodes.specs.Finding.{named}
use Rattle.ar_nodes.specs.Pool.{Pooled}
use Rattle.ar_nodes.specs.declared.fault.WorldFault.{WorldFault}
use Rattle.ar_nodes.specs.declared.fault.WorldFault.TheVariants.{Limit}
use Rattle.ar_statement.specs.Claims.{is_party}
use Rattle.ar_statement.specs.declared.party.Party.{Party}
use Rattle.ar_statement.specs.declared.party.Role.{Role}
use Rattle.ar_statement.specs.declared.party.Role.TheVariants as role
use Rattle.ar_world.specs.Delivering.{Taker, a_log, an_authority, delivery}
use Rattle.ar_world.specs.Finding.{authority_at, log_at, message_at, room}
use Rattle.ar_world.specs.State.{Moved, World, printing, silent}
use Rattle.owner_check.specs.declared.answer.Outcome.{Outcome}
use Rattle.report_text.specs.declared.happening.Happening.TheVariants.{Order}
use Rattle.seat_orders.specs.Dealing.{dealt_lists}
use Rattle.seat_orders.specs.Orders.{IsInterleaving}
use Rattle.burst_run.specs.Stations.{AreStations, Deliveries}

-- ---- what may be in a burst

-- who takes deliveries in a burst: an honest log or authority
abbrev pub station_in : World → Role → ℕ → Option Taker
station_in w role.LogServer number = option_map a_log (log_at w number)
station_in w role.Authority number = option_map an_authority (authority_at w number)
station_in w role.Owner number = None
station_in w role.Client number = None

abbrev pub station_at : World → Party → Option Taker
station_at w who = station_in w who.role who.number

-- how many deliveries a burst may have
abbrev pub most_in_burst : ℕ
most_in_burst = 64

-- Word 1 of the line names a message, and word 2 an honest log or authority; there is room for what that may send, and room in the
-- burst, in which these deliveries stand already.
abbrev pub may_join : World → Deliveries → ℕ → Party → Result (Unit {0}) WorldFault
may_join w deliveries message who = do
  p ← named 1 (message_at w message)
  taker ← named 2 (station_at w who)
  free ← room w
  need (nat_lt (length deliveries) most_in_burst) Limit

-- a delivery is of a message that is there, to an honest log or authority
abbrev pub IsDeliverable : World → ℕ × Party → Type 0
IsDeliverable w d = (is_some (message_at w d.0) ≡ true) × (is_some (station_at w d.1) ≡ true)

-- ---- orders

-- A delivery in the order in which a party takes them: its number in the burst, from 0, and what the party's check of owners says,
-- where it is asked and tells nothing of itself.
pub record Turn : Type 0 where
  pub number : ℕ
  pub says : Outcome

-- a party that takes deliveries, and its turns
pub record Sequence : Type 0 where
  pub party : Party
  pub turns : List Turn

-- the numbers of some turns
abbrev pub turn_numbers : List Turn → List ℕ
turn_numbers turns = map (λ turn. turn.number) turns

-- The orders of a burst by so many workers: one for each party that takes deliveries, logs ascending and then authorities. A worker
-- has each delivery whose number has the worker's as its remainder by the number of workers; and a party's order is an interleaving of
-- what the workers have for it, each in the order of the burst.
pub record AreOrders (workers : ℕ) (deliveries : Deliveries) (orders : List Sequence) : Type 0 where
  pub parties : AreStations deliveries (map (λ o. o.party) orders)
  pub each : AllByRecursion (λ o. IsInterleaving (turn_numbers o.turns) (dealt_lists workers (λ d. is_party o.party d.1) deliveries)) orders

-- ---- what a burst makes of a world

-- a message goes to a party, whatever room there is; where one of the two is not there, nothing happens
abbrev pub delivery_if : Outcome → World → ℕ → ℕ → Option Pooled → Option Taker → Moved
delivery_if says w message number None taker = silent w
delivery_if says w message number (Some p) None = silent w
delivery_if says w message number (Some p) (Some taker) = delivery says w message number taker

abbrev pub delivery_to : Outcome → World → ℕ → Party → Moved
delivery_to says w message who = delivery_if says w message who.number (message_at w message) (station_at w who)

-- the party takes this delivery of the burst
abbrev pub turn_taken : World → Party → Outcome → Option (ℕ × Party) → Moved
turn_taken w who says None = silent w
turn_taken w who says (Some d) = delivery_to says w d.0 who

-- the party takes its deliveries, one after the other
abbrev pub turns_taken : Deliveries → Party → World → List Turn → Moved
turns_taken deliveries who w [] = silent w
turns_taken deliveries who w (turn ∷ turns) =
    let made = turn_taken w who turn.says (slice_get deliveries turn.number)
    in printing made.1 (turns_taken deliveries who made.0 turns)

-- each party takes its deliveries: its order is printed, and then what happens
abbrev pub burst_made : Deliveries → World → List Sequence → Moved
burst_made deliveries w [] = silent w
burst_made deliveries w (o ∷ orders) =
    let made = turns_taken deliveries o.party w o.turns
    in printing (Order o.party (turn_numbers o.turns) ∷ made.1) (burst_made deliveries made.0 orders)
