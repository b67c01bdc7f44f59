-- What workers brought to several stations is what visits are.
use Rattle.std.proofs.Common.{◌≡◌, ℕ, zero, suc, ◌+◌, true, List, [], ◌∷◌, map, Option, Some, refl, sym, ap, ◌∙◌, subst, arith}
use Rattle.std.specs.Prelude.{is_some, slice_get}
use Rattle.std.specs.List.{AllByRecursion, AllZip, position_or_len}
use Rattle.std.proofs.lemmas.Bool.{eq-eqb}
use Rattle.ar_council.proofs.Seeing.{one_party}
use Rattle.ar_statement.specs.Claims.{has_party, is_party}
use Rattle.ar_statement.specs.declared.party.Party.{Party}
use Rattle.ar_nodes.specs.Acting.{bytes_of}
use Rattle.ar_world.specs.Finding.{message_at}
use Rattle.ar_world.specs.State.{World}
use Rattle.node_core.specs.History.{replies}
use Rattle.node_crowd.specs.Along.{Abreast, EachFrom}
use Rattle.node_crowd.specs.Bringing.{AreNumbered, IsOfErrand, TakesDealt, goes_to}
use Rattle.node_crowd.specs.Working.{IsTaken}
use Rattle.node_crowd.specs.declared.errand.Errand.{Errand}
use Rattle.owner_check.specs.declared.answer.Outcome.{Outcome}
use Rattle.seat_orders.specs.Carrying.{inputs_of}
use Rattle.seat_orders.specs.Dealing.{dealt_lists}
use Rattle.seat_orders.specs.Orders.{IsInterleaving}
use Rattle.station.specs.Kept.{IsStation, signed_reply}
use Rattle.station.specs.Station.{IsNoted, StationState, replied_at}
use Rattle.station.specs.declared.delivery.Delivery.{Delivery}
use Rattle.burst_run.specs.Laying.{AreAway, Away, Homes, VisitParts, brought_for, errand_for, errands_from, left_by}
use Rattle.burst_run.specs.Stations.{Deliveries}
use Rattle.burst_run.specs.Visiting.{IsOwnCall, IsVisit}
use Rattle.burst_run.proofs.Dealt.{IsOnceEach, goes_alike, lists_alike}
use Rattle.burst_run.proofs.Visits.{own_party}

-- ---- errands

-- the errands have their numbers, and so have their inputs
pub errands_numbered : (w : World) (stations : List Party) (number : ℕ) (deliveries : Deliveries) → AreNumbered (λ (d : Delivery). d.j) number (errands_from w stations number deliveries)
errands_numbered w stations number [] = tt
errands_numbered w stations number (d ∷ deliveries) = (refl, refl, errands_numbered w stations (number + 1) deliveries)

-- an errand is that of the delivery with its number
errand_found : (w : World) (stations : List Party) (number j : ℕ) (deliveries : Deliveries) (e : Errand Delivery) → slice_get (errands_from w stations number deliveries) j ≡ Some e
    → (d : ℕ × Party) × (slice_get deliveries j ≡ Some d) × (e ≡ errand_for w stations (number + j) d)
errand_found w stations number j [] e is = absurd cc
errand_found w stations number zero (d ∷ deliveries) e is =
    let same : e ≡ errand_for w stations number d = cc in
    let own : number ≡ number + zero = omega arith in
    (d, refl, same ∙ ap (λ n. errand_for w stations n d) own)
errand_found w stations number (suc j) (d ∷ deliveries) e is =
    let rest = errand_found w stations (number + 1) j deliveries e is in
    let own : number + 1 + j ≡ number + suc j = omega arith in
    (rest.0, rest.1, rest.2 ∙ ap (λ n. errand_for w stations n rest.0) own)

-- what is true of all is true of the one at a place
each_at : {A : Type 0} (P : A → Type 0) (xs : List A) (j : ℕ) (x : A) → AllByRecursion P xs → slice_get xs j ≡ Some x → P x
each_at P [] j x all is = absurd cc
each_at P (y ∷ ys) zero x all is =
    let same : y ≡ x = cc in
    subst P same all.0
each_at P (y ∷ ys) (suc j) x all is = each_at P ys j x all.1 is

-- the errands to a party's place are the deliveries to the party
errands_alike : (w : World) (stations : List Party) (who : Party) (place number : ℕ) (deliveries : Deliveries) → IsOnceEach stations → slice_get stations place ≡ Some who
    → AllByRecursion (λ d. has_party stations d.1 ≡ true) deliveries
    → AllZip (λ e d. goes_to place e ≡ is_party who d.1) (errands_from w stations number deliveries) deliveries
errands_alike w stations who place number [] once at there = tt
errands_alike w stations who place number (d ∷ deliveries) once at there =
    (goes_alike stations who d.1 place once at there.0, errands_alike w stations who place (number + 1) deliveries once at there.1)

-- ---- a call

own_call : (w : World) (stations : List Party) (who : Party) (place : ℕ) (deliveries : Deliveries) (input : Delivery) (said : Option Outcome) → IsOnceEach stations → slice_get stations place ≡ Some who
    → AllByRecursion (λ d. has_party stations d.1 ≡ true) deliveries → AllByRecursion (λ d. is_some (message_at w d.0) ≡ true) deliveries
    → IsOfErrand (λ (d : Delivery). d.j) (errands_from w stations 0 deliveries) place input → IsOwnCall w deliveries who (input, said)
own_call w stations who place deliveries input said once at there messages is =
    let found = errand_found w stations 0 input.j deliveries is.errand is.there in
    let d = found.0 in
    let goes : position_or_len (is_party d.1) stations ≡ place = ap (λ (e : Errand Delivery). e.place) (sym found.2) ∙ is.goes in
    let passes : is_party who d.1 ≡ true =
    sym (goes_alike stations who d.1 place once at (each_at (λ x. has_party stations x.1 ≡ true) deliveries input.j d there found.1)) ∙ eq-eqb (position_or_len (is_party d.1) stations) place goes in
    let whom : who ≡ d.1 = one_party who d.1 passes in
    let brings : input ≡ brought_for w (0 + input.j) d.0 = sym is.input_is ∙ ap (λ (e : Errand Delivery). e.input) found.2 in
    let message : input.message ≡ d.0 = ap (λ (i : Delivery). i.message) brings in
    record {
      delivery = found.1 ∙ ap (λ m. Some (m, d.1)) (sym message) ∙ ap (λ p. Some (input.message, p)) (sym whom);
      there = ap (λ m. is_some (message_at w m)) message ∙ each_at (λ x. is_some (message_at w x.0) ≡ true) deliveries input.j d messages found.1;
      bytes = ap (λ (i : Delivery). i.bytes) brings ∙ ap (λ m. bytes_of (message_at w m)) (sym message);
    }

own_calls : (w : World) (stations : List Party) (who : Party) (place : ℕ) (deliveries : Deliveries) (history : List (Delivery × Option Outcome)) → IsOnceEach stations
    → slice_get stations place ≡ Some who → AllByRecursion (λ d. has_party stations d.1 ≡ true) deliveries → AllByRecursion (λ d. is_some (message_at w d.0) ≡ true) deliveries
    → AllByRecursion (IsOfErrand (λ (d : Delivery). d.j) (errands_from w stations 0 deliveries) place) (inputs_of history) → AllByRecursion (IsOwnCall w deliveries who) history
own_calls w stations who place deliveries [] once at there messages are = tt
own_calls w stations who place deliveries (call ∷ history) once at there messages are = (
  own_call w stations who place deliveries call.0 call.1 once at there messages are.0,
  own_calls w stations who place deliveries history once at there messages are.1,
)

numbers_same : (history : List (Delivery × Option Outcome)) → map (λ (d : Delivery). d.j) (inputs_of history) ≡ map (λ call. call.0.j) history
numbers_same [] = refl
numbers_same (call ∷ history) = ap (λ l. call.0.j ∷ l) (numbers_same history)

-- ---- a visit

pub visit_is : (w : World) (workers : ℕ) (deliveries : Deliveries) (stations : List Party) (place : ℕ) (away : Away) (now : StationState) (visit : VisitParts) (lists : List (List Delivery))
    → IsOnceEach stations → slice_get stations place ≡ Some away.party → AllByRecursion (λ d. has_party stations d.1 ≡ true) deliveries
    → AllByRecursion (λ d. is_some (message_at w d.0) ≡ true) deliveries → visit.party ≡ away.party → IsStation away.state away.keys
    → IsTaken replied_at IsNoted (signed_reply away.keys) away.state lists visit.history now visit.replies
    → TakesDealt (λ (d : Delivery). d.j) workers (errands_from w stations 0 deliveries) place (inputs_of visit.history)
    → IsVisit w workers deliveries away now visit
visit_is w workers deliveries stations place away now visit lists once at there messages own kept taken dealt = record {
  party = own;
  kept = kept;
  replays = taken.replays;
  replied = taken.replied;
  own = own_calls w stations away.party place deliveries visit.history once at there messages dealt.inputs_are;
  order = subst (λ l. IsInterleaving (map (λ call. call.0.j) visit.history) l)
      (lists_alike workers (goes_to place) (λ d. is_party away.party d.1) (errands_from w stations 0 deliveries) deliveries (errands_alike w stations away.party place 0 deliveries once at there))
      (subst (λ l. IsInterleaving l (dealt_lists workers (goes_to place) (errands_from w stations 0 deliveries))) (numbers_same visit.history) dealt.order);
}

-- ---- all visits

-- those that are away stand in the order of the stations
pub away_at : (homes : Homes) (stations : List Party) (all : List Away) (place : ℕ) (away : Away) → AreAway homes stations all → slice_get all place ≡ Some away → slice_get stations place ≡ Some away.party
away_at homes [] [] place away are is = absurd cc
away_at homes [] (a ∷ all) place away are is = absurd cc
away_at homes (who ∷ stations) [] place away are is = absurd are
away_at homes (who ∷ stations) (a ∷ all) zero away are is =
    let same : a ≡ away = cc in
    ap Some (sym (own_party homes who.role who.number a are.0) ∙ ap (λ (x : Away). x.party) same)
away_at homes (who ∷ stations) (a ∷ all) (suc place) away are is = away_at (left_by homes who) stations all place away are.1 is

module _ {A B : Type 0} (R : ℕ → A → B → Type 0) (Q : Away → StationState → VisitParts → Type 0) (f : A → Away) (g : B → StationState) (h : B → VisitParts)
    (each : (place : ℕ) (a : A) (b : B) → R place a b → Q (f a) (g b) (h b)) where
  pub all_abreast : (place : ℕ) (ones : List A) (others : List B) → EachFrom R place ones others → Abreast Q (map f ones) (map g others) (map h others)
  all_abreast place [] [] all = (refl, refl)
  all_abreast place [] (b ∷ others) all = absurd all
  all_abreast place (a ∷ ones) [] all = absurd all
  all_abreast place (a ∷ ones) (b ∷ others) all = (each place a b all.0, all_abreast (place + 1) ones others all.1)
