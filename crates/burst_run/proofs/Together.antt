-- What workers brought to several stations, place by place, is what the visits of a burst are.
use Rattle.std.proofs.Common.{◌≡◌, ℕ, zero, suc, ◌+◌, ◌<◌, true, List, [], ◌∷◌, map, length, Option, Some, refl, sym, ap, ◌∙◌, subst, arith}
use Rattle.std.specs.Prelude.{is_some, slice_get}
use Rattle.std.specs.List.{AllByRecursion, range_with_len}
use Rattle.std.specs.Option.{option_map}
use Rattle.std.proofs.lemmas.Option.{slice_get-map}
use Rattle.ar_statement.specs.Claims.{has_party, is_party}
use Rattle.ar_statement.specs.declared.party.Party.{Party}
use Rattle.ar_world.specs.Finding.{message_at}
use Rattle.ar_world.specs.State.{World}
use Rattle.node_crowd.specs.Along.{Abreast, EachFrom}
use Rattle.node_crowd.specs.Bringing.{AreNumbered, TakesDealt, brought_to, own_of}
use Rattle.node_crowd.specs.Working.{IsTaken}
use Rattle.node_crowd.specs.declared.errand.Errand.{Errand}
use Rattle.seat_orders.specs.Carrying.{inputs_of}
use Rattle.station.specs.Kept.{IsStation, signed_reply}
use Rattle.station.specs.Station.{IsNoted, StationState, replied_at}
use Rattle.station.specs.declared.delivery.Delivery.{Delivery}
use Rattle.station.proofs.Keeping.{stays-after}
use Rattle.burst_run.specs.Laying.{AreAway, Away, HasPlace, Homes, VisitParts, all_back_in, errands_from, left_by, left_by_all}
use Rattle.burst_run.specs.Stations.{Deliveries, stations_of}
use Rattle.burst_run.specs.Visiting.{AreVisits, IsVisit, stand_now}
use Rattle.burst_run.proofs.Among.{place_within}
use Rattle.burst_run.proofs.Dealt.{IsOnceEach}
use Rattle.burst_run.proofs.Gathered.{all_abreast, away_at, errands_numbered, visit_is}
use Rattle.burst_run.proofs.Leaving.{AllInPlace, found_once, found_there}
use Rattle.burst_run.proofs.Returning.{AsMany, all_placed, many_left_all, places_kept}

-- ---- errands

-- each errand goes to one of the stations
pub errands_within : (w : World) (stations : List Party) (number : ℕ) (deliveries : Deliveries) → AllByRecursion (λ d. has_party stations d.1 ≡ true) deliveries
    → AllByRecursion (λ e. e.place < length stations) (errands_from w stations number deliveries)
errands_within w stations number [] there = tt
errands_within w stations number (d ∷ deliveries) there =
    (place_within (is_party d.1) stations there.0, errands_within w stations (number + 1) deliveries there.1)

-- as many stand apart as left
pub away_long : (homes : Homes) (stations : List Party) (all : List Away) → AreAway homes stations all → length all ≡ length stations
away_long homes [] all are = ap length are
away_long homes (who ∷ stations) [] are = absurd are
away_long homes (who ∷ stations) (a ∷ all) are = let rest = away_long (left_by homes who) stations all are.1 in omega (arith, rest)

pub errands_on : (w : World) (homes : Homes) (deliveries : Deliveries) (stations : List Party) (errands : List (Errand Delivery)) (many : ℕ) (all : List Away) → stations ≡ stations_of deliveries
    → AllInPlace homes deliveries → errands ≡ errands_from w stations 0 deliveries → AreAway homes stations all → length all ≡ many → AllByRecursion (λ e. e.place < many) errands
errands_on w homes deliveries stations errands many all found there made stand long =
    subst (λ n. AllByRecursion (λ (e : Errand Delivery). e.place < n) errands) (sym (away_long homes stations all stand) ∙ long)
    (subst (λ es. AllByRecursion (λ (e : Errand Delivery). e.place < length stations) es) (sym made)
    (errands_within w stations 0 deliveries (found_there homes deliveries stations found there)))

-- ---- facts at each place

module _ {A B : Type 0} where
  pub both_from : (R S : ℕ → A → B → Type 0) (place : ℕ) (ones : List A) (others : List B) → EachFrom R place ones others → EachFrom S place ones others
      → EachFrom (λ p a b. R p a b × S p a b) place ones others
  both_from R S place [] [] r s = tt
  both_from R S place [] (b ∷ others) r s = absurd r
  both_from R S place (a ∷ ones) [] r s = absurd r
  both_from R S place (a ∷ ones) (b ∷ others) r s = ((r.0, s.0), both_from R S (place + 1) ones others r.1 s.1)

  pub ones_from : (K : A → Type 0) (R : ℕ → A → B → Type 0) (place : ℕ) (ones : List A) (others : List B) → AllByRecursion K ones → EachFrom R place ones others
      → EachFrom (λ p a b. K a) place ones others
  ones_from K R place [] [] all r = tt
  ones_from K R place [] (b ∷ others) all r = absurd r
  ones_from K R place (a ∷ ones) [] all r = absurd r
  ones_from K R place (a ∷ ones) (b ∷ others) all r = (all.0, ones_from K R (place + 1) ones others all.1 r.1)

  pub at_from : (P : ℕ → A → Type 0) (R : ℕ → A → B → Type 0) (place : ℕ) (ones : List A) (others : List B) → ((i : ℕ) (a : A) → slice_get ones i ≡ Some a → P (place + i) a)
      → EachFrom R place ones others → EachFrom (λ p a b. P p a) place ones others
  at_from P R place [] [] each r = tt
  at_from P R place [] (b ∷ others) each r = absurd r
  at_from P R place (a ∷ ones) [] each r = absurd r
  at_from P R place (a ∷ ones) (b ∷ others) each r =
      let here : place + zero ≡ place = omega arith in (
        subst (λ p. P p a) here (each zero a refl),
        at_from P R (place + 1) ones others
            (λ i x is. let next : place + suc i ≡ place + 1 + i = omega arith in subst (λ p. P p x) next (each (suc i) x is)) r.1,
      )

  pub same_from : {X : Type 0} (f : A → X) (g : B → X) (place : ℕ) (ones : List A) (others : List B) → map g others ≡ map f ones → EachFrom (λ p a b. g b ≡ f a) place ones others
  same_from f g place [] [] same = tt
  same_from f g place [] (b ∷ others) same = absurd cc
  same_from f g place (a ∷ ones) [] same = absurd cc
  same_from f g place (a ∷ ones) (b ∷ others) same =
      let one : g b ≡ f a = cc in
      let rest : map g others ≡ map f ones = cc in
      (one, same_from f g (place + 1) ones others rest)

  pub others_from : (Q : B → Type 0) (R : ℕ → A → B → Type 0) (place : ℕ) (ones : List A) (others : List B) → ((p : ℕ) (a : A) (b : B) → R p a b → Q b)
      → EachFrom R place ones others → AllByRecursion Q others
  others_from Q R place [] [] each r = tt
  others_from Q R place [] (b ∷ others) each r = absurd r
  others_from Q R place (a ∷ ones) [] each r = absurd r
  others_from Q R place (a ∷ ones) (b ∷ others) each r = (each place a b r.0, others_from Q R (place + 1) ones others each r.1)

-- what is true of what a list becomes is true of it
of_mapped : {A B : Type 0} (Q : B → Type 0) (f : A → B) (xs : List A) → AllByRecursion Q (map f xs) → AllByRecursion (λ x. Q (f x)) xs
of_mapped Q f [] all = tt
of_mapped Q f (x ∷ xs) all = (all.0, of_mapped Q f xs all.1)

-- ---- desks and what is taken of them

-- Desks and what was taken of them: as what each desk stands apart, how its station stands now, with what, and what its visit is; and
-- what has stayed of the desk.
module _ {D T F : Type 0} (away : D → Away) (now : T → StationState) (back : T → Away) (visit : T → VisitParts) (stayed : D → F) (stays : T → F) where
  -- what stayed says who it is, and has the keys, and what it did
  pub record Stays : Type 0 where
    pub party : (d : D) (t : T) → stays t ≡ stayed d → (visit t).party ≡ (away d).party
    pub back_is : (d : D) (t : T) → stays t ≡ stayed d → record (away d) { state = now t } ≡ back t

  -- What workers brought to the stations of these deliveries, each of which stood on a desk.
  pub record Brings (w : World) (workers : ℕ) (deliveries : Deliveries) (stations : List Party) (lists : ℕ → List (List Delivery)) (desks : List D) (all : List T) : Type 0 where
    pub kept : AllByRecursion (λ d. IsStation (away d).state (away d).keys) desks
    pub finish : map stays all ≡ map stayed desks
    pub taken : EachFrom (λ place d t. IsTaken replied_at IsNoted (signed_reply (away d).keys) (away d).state (lists place) (visit t).history (now t) (visit t).replies) 0 desks all
    pub orders : EachFrom (λ place d t. TakesDealt (λ (x : Delivery). x.j) workers (errands_from w stations 0 deliveries) place (inputs_of (visit t).history)) 0 desks all

  module _ (stay : Stays) where
    -- ---- visits

    pub visits_from : (w : World) (workers : ℕ) (deliveries : Deliveries) (homes : Homes) (stations : List Party) (lists : ℕ → List (List Delivery)) (desks : List D) (all : List T)
        → IsOnceEach stations → AllByRecursion (λ d. has_party stations d.1 ≡ true) deliveries → AllByRecursion (λ d. is_some (message_at w d.0) ≡ true) deliveries
        → AreAway homes stations (map away desks) → Brings w workers deliveries stations lists desks all
        → Abreast (IsVisit w workers deliveries) (map away desks) (map now all) (map visit all)
    visits_from w workers deliveries homes stations lists desks all once there messages stand brings =
        all_abreast (λ place d t. ((slice_get stations place ≡ Some (away d).party) × (IsStation (away d).state (away d).keys × (stays t ≡ stayed d)))
        × (IsTaken replied_at IsNoted (signed_reply (away d).keys) (away d).state (lists place) (visit t).history (now t) (visit t).replies
        × TakesDealt (λ (x : Delivery). x.j) workers (errands_from w stations 0 deliveries) place (inputs_of (visit t).history)))
        (IsVisit w workers deliveries) away now visit
        (λ place d t is.
        visit_is w workers deliveries stations place (away d) (now t) (visit t) (lists place) once is.0.0 there messages (stay.party d t is.0.1.1) is.0.1.0 is.1.0 is.1.1)
        0 desks all
        (both_from _ _ 0 desks all
        (both_from _ _ 0 desks all
        (at_from (λ place d. slice_get stations place ≡ Some (away d).party) _ 0 desks all
        (λ i d is.
        let own : i ≡ 0 + i = omega arith in
        subst (λ p. slice_get stations p ≡ Some (away d).party) own (away_at homes stations (map away desks) i (away d) stand (slice_get-map away desks i ∙ ap (option_map away) is)))
        brings.taken)
        (both_from _ _ 0 desks all (ones_from (λ d. IsStation (away d).state (away d).keys) _ 0 desks all brings.kept brings.taken) (same_from stayed stays 0 desks all brings.finish)))
        (both_from _ _ 0 desks all brings.taken brings.orders))

    -- ---- they come back

    pub stand_back : (place : ℕ) (desks : List D) (all : List T) → EachFrom (λ p d t. stays t ≡ stayed d) place desks all → stand_now (map away desks) (map now all) ≡ map back all
    stand_back place [] [] same = refl
    stand_back place [] (t ∷ all) same = absurd same
    stand_back place (d ∷ desks) [] same = absurd same
    stand_back place (d ∷ desks) (t ∷ all) same =
        ap (λ (a : Away). a ∷ stand_now (map away desks) (map now all)) (stay.back_is d t same.0) ∙ ap (λ l. back t ∷ l) (stand_back (place + 1) desks all same.1)

    pub back_stands : (desks : List D) (all : List T) → map stays all ≡ map stayed desks → stand_now (map away desks) (map now all) ≡ map back all
    back_stands desks all same = stand_back 0 desks all (same_from stayed stays 0 desks all same)

    -- each has a place in the homes that all left
    pub back_placed : (w : World) (workers : ℕ) (deliveries : Deliveries) (homes left : Homes) (stations : List Party) (lists : ℕ → List (List Delivery)) (desks : List D) (all : List T)
        → IsOnceEach stations → AllByRecursion (λ d. has_party stations d.1 ≡ true) deliveries → AllByRecursion (λ d. is_some (message_at w d.0) ≡ true) deliveries
        → AreAway homes stations (map away desks) → left ≡ left_by_all homes stations → Brings w workers deliveries stations lists desks all
        → AllByRecursion (λ t. HasPlace left (back t).party.number (back t).state) all
    back_placed w workers deliveries homes left stations lists desks all once there messages stand leaves brings =
        let placed = all_placed w workers deliveries homes stations (map away desks) (map now all) (map visit all) stand
        (visits_from w workers deliveries homes stations lists desks all once there messages stand brings) in
        of_mapped (λ (a : Away). HasPlace left a.party.number a.state) back all
        (subst (λ l. AllByRecursion (λ (a : Away). HasPlace left a.party.number a.state) l) (back_stands desks all brings.finish)
        (places_kept homes left (stand_now (map away desks) (map now all)) (subst (λ (p : Homes). AsMany homes p) (sym leaves) (many_left_all homes stations)) placed))

    pub are_visits : (w : World) (workers : ℕ) (deliveries : Deliveries) (homes left new : Homes) (stations : List Party) (lists : ℕ → List (List Delivery)) (desks : List D) (all : List T)
        (visits : List VisitParts) → stations ≡ stations_of deliveries
        → IsOnceEach stations → AllByRecursion (λ d. has_party stations d.1 ≡ true) deliveries → AllByRecursion (λ d. is_some (message_at w d.0) ≡ true) deliveries
        → AreAway homes stations (map away desks) → left ≡ left_by_all homes stations → Brings w workers deliveries stations lists desks all
        → new ≡ all_back_in left (map back all) → visits ≡ map visit all → AreVisits w workers deliveries homes new visits
    are_visits w workers deliveries homes left new stations lists desks all visits found once there messages stand leaves brings comes made = record {
      all = map away desks;
      now = map now all;
      stand = subst (λ l. AreAway homes l (map away desks)) found stand;
      each = subst (λ l. Abreast (IsVisit w workers deliveries) (map away desks) (map now all) l) (sym made)
          (visits_from w workers deliveries homes stations lists desks all once there messages stand brings);
      back = comes ∙ ap (all_back_in left) (sym (back_stands desks all brings.finish))
          ∙ ap (λ (p : Homes). all_back_in p (stand_now (map away desks) (map now all))) (leaves ∙ ap (left_by_all homes) found);
    }

  -- the keys of what stayed are those of the station as it stands now
  pub kept_back : (w : World) (workers : ℕ) (deliveries : Deliveries) (stations : List Party) (lists : ℕ → List (List Delivery)) (desks : List D) (all : List T) → Stays
      → Brings w workers deliveries stations lists desks all → AllByRecursion (λ t. IsStation (back t).state (back t).keys) all
  kept_back w workers deliveries stations lists desks all stay brings =
      others_from (λ t. IsStation (back t).state (back t).keys)
      (λ place d t. (IsStation (away d).state (away d).keys × (stays t ≡ stayed d))
      × IsTaken replied_at IsNoted (signed_reply (away d).keys) (away d).state (lists place) (visit t).history (now t) (visit t).replies)
      0 desks all
      (λ place d t is.
      subst (λ (a : Away). IsStation a.state a.keys) (stay.back_is d t is.0.1)
      (subst (λ (s : StationState). IsStation s (away d).keys) is.1.replays.state (stays-after (away d).state (away d).keys (visit t).history is.0.0 is.1.replays.legally)))
      (both_from _ _ 0 desks all
      (both_from _ _ 0 desks all (ones_from (λ d. IsStation (away d).state (away d).keys) _ 0 desks all brings.kept brings.taken) (same_from stayed stays 0 desks all brings.finish))
      brings.taken)

  -- ---- as a program finds it

  -- The stations of these deliveries were found, an errand was made of each delivery, the stations left their homes for the desks, and
  -- this was taken of the desks.
  pub record Found (w : World) (workers : ℕ) (deliveries : Deliveries) (homes left : Homes) (stations : List Party) (errands : List (Errand Delivery)) (desks : List D) (all : List T) : Type 0 where
    pub found : stations ≡ stations_of deliveries
    pub there : AllInPlace homes deliveries
    pub messages : AllByRecursion (λ d. is_some (message_at w d.0) ≡ true) deliveries
    pub made : errands ≡ errands_from w stations 0 deliveries
    pub stand : AreAway homes stations (map away desks)
    pub leaves : left ≡ left_by_all homes stations
    pub kept : AllByRecursion (λ d. IsStation (away d).state (away d).keys) desks
    pub finish : map stays all ≡ map stayed desks
    pub taken : EachFrom (λ place d t. IsTaken replied_at IsNoted (signed_reply (away d).keys) (away d).state
        (map (λ worker. brought_to place (own_of workers worker errands)) (range_with_len 0 workers)) (visit t).history (now t) (visit t).replies) 0 desks all
    pub orders : AreNumbered (λ (x : Delivery). x.j) 0 errands
        → EachFrom (λ place d t. TakesDealt (λ (x : Delivery). x.j) workers errands place (inputs_of (visit t).history)) 0 desks all

  found_brings : (w : World) (workers : ℕ) (deliveries : Deliveries) (homes left : Homes) (stations : List Party) (errands : List (Errand Delivery)) (desks : List D) (all : List T)
      → Found w workers deliveries homes left stations errands desks all
      → Brings w workers deliveries stations (λ place. map (λ worker. brought_to place (own_of workers worker errands)) (range_with_len 0 workers)) desks all
  found_brings w workers deliveries homes left stations errands desks all so = record {
    kept = so.kept;
    finish = so.finish;
    taken = so.taken;
    orders = subst (λ (es : List (Errand Delivery)). EachFrom (λ place d t. TakesDealt (λ (x : Delivery). x.j) workers es place (inputs_of (visit t).history)) 0 desks all) so.made
        (so.orders (subst (λ (es : List (Errand Delivery)). AreNumbered (λ (x : Delivery). x.j) 0 es) (sym so.made) (errands_numbered w stations 0 deliveries)));
  }

  module _ (stay : Stays) (w : World) (workers : ℕ) (deliveries : Deliveries) (homes left : Homes) (stations : List Party) (errands : List (Errand Delivery)) (desks : List D) (all : List T)
      (so : Found w workers deliveries homes left stations errands desks all) where
    pub found_kept : AllByRecursion (λ t. IsStation (back t).state (back t).keys) all
    found_kept = kept_back w workers deliveries stations _ desks all stay (found_brings w workers deliveries homes left stations errands desks all so)

    pub found_places : AllByRecursion (λ t. HasPlace left (back t).party.number (back t).state) all
    found_places =
        back_placed stay w workers deliveries homes left stations _ desks all (found_once deliveries stations so.found) (found_there homes deliveries stations so.found so.there) so.messages so.stand so.leaves
        (found_brings w workers deliveries homes left stations errands desks all so)

    pub found_visits : (new : Homes) (visits : List VisitParts) → new ≡ all_back_in left (map back all) → visits ≡ map visit all → AreVisits w workers deliveries homes new visits
    found_visits new visits comes told =
        are_visits stay w workers deliveries homes left new stations _ desks all visits so.found (found_once deliveries stations so.found) (found_there homes deliveries stations so.found so.there)
        so.messages so.stand so.leaves (found_brings w workers deliveries homes left stations errands desks all so) comes told
