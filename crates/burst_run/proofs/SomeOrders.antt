-- Each burst has some orders: those in which each party takes its deliveries as they stand in the burst.
use Rattle.std.proofs.Common.{◌≡◌, ℕ, ◌<◌, List, [], ◌∷◌, map, refl, ap, subst}
use Rattle.std.specs.List.{AllByRecursion}
use Rattle.ar_statement.specs.Claims.{is_party}
use Rattle.ar_statement.specs.declared.party.Party.{Party}
use Rattle.owner_check.specs.declared.answer.Outcome.TheVariants.{Failed}
use Rattle.seat_orders.specs.Dealing.{dealt_lists}
use Rattle.seat_orders.specs.Orders.{IsInterleaving}
use Rattle.burst_run.proofs.PlainOrders.{plain_interleaves, plain_order}
use Rattle.burst_run.specs.Bursts.{AreOrders, Sequence, Turn, turn_numbers}
use Rattle.burst_run.specs.Stations.{AreStations, Deliveries, stations_of}
use Rattle.burst_run.proofs.StationsLemmas.{are_stations}

-- turns with these numbers
abbrev turns_with : List ℕ → List Turn
turns_with numbers = map (λ number. record { number = number; says = Failed }) numbers

their_numbers : (numbers : List ℕ) → numbers ≡ turn_numbers (turns_with numbers)
their_numbers [] = refl
their_numbers (n ∷ numbers) = ap (λ l. n ∷ l) (their_numbers numbers)

abbrev some_sequence : Deliveries → Party → Sequence
some_sequence deliveries who = record { party = who; turns = turns_with (plain_order (λ d. is_party who d.1) deliveries) }

their_parties : (deliveries : Deliveries) (parties : List Party) → parties ≡ map (λ o. o.party) (map (some_sequence deliveries) parties)
their_parties deliveries [] = refl
their_parties deliveries (who ∷ parties) = ap (λ l. who ∷ l) (their_parties deliveries parties)

each_sequence : (workers : ℕ) → 0 < workers → (deliveries : Deliveries) (parties : List Party)
    → AllByRecursion (λ o. IsInterleaving (turn_numbers o.turns) (dealt_lists workers (λ d. is_party o.party d.1) deliveries)) (map (some_sequence deliveries) parties)
each_sequence workers some deliveries [] = tt
each_sequence workers some deliveries (who ∷ parties) = (
  subst (λ order. IsInterleaving order (dealt_lists workers (λ d. is_party who d.1) deliveries)) (their_numbers (plain_order (λ d. is_party who d.1) deliveries))
      (plain_interleaves (λ d. is_party who d.1) workers some deliveries),
  each_sequence workers some deliveries parties,
)

pub some_orders : (workers : ℕ) → 0 < workers → (deliveries : Deliveries) → (orders : List Sequence) × AreOrders workers deliveries orders
some_orders workers some deliveries = (
  map (some_sequence deliveries) (stations_of deliveries),
  record {
    parties = subst (λ parties. AreStations deliveries parties) (their_parties deliveries (stations_of deliveries)) (are_stations deliveries);
    each = each_sequence workers some deliveries (stations_of deliveries);
  },
)
