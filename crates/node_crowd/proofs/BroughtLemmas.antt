-- What a history has was brought, and what was brought is of an errand.
use Rattle.std.proofs.Common.{◌≡◌, ℕ, zero, suc, ◌+◌, ◌<◌, ◌%◌, ◌==◌, Bool, true, false, if◌then◌else◌, inl, inr, List, [], ◌∷◌, Some, length, map, refl, sym, ◌∙◌, subst, arith}
use Rattle.std.specs.Prelude.{slice_get}
use Rattle.std.specs.List.{AllByRecursion, AllZip}
use Rattle.std.proofs.lemmas.Bool.{eqb-true, ne_eqb}
use Rattle.std.proofs.lemmas.List.{map-append}
use mathlib.Core.Logic.{dite}
use native.Mathlib.Decide.{ℕ_discrete}
use Rattle.ar_base.specs.Counting.{one_if}
use Rattle.ar_base.specs.Prefixes.{BeginsWith}
use Rattle.ar_seats.specs.Numbers.{HasEachBelow, times}
use Rattle.ar_seats.specs.Totals.{total}
use Rattle.ar_seats.proofs.NumbersLemmas.{once_below-lt}
use Rattle.std.proofs.lemmas.List.{length-map}
use Rattle.seat_orders.specs.Carrying.{Carries, StandAt, inputs_of}
use Rattle.seat_orders.proofs.Subsequences.{stand_more}
use Rattle.node_crowd.specs.Bringing.{AreNumbered, IsOfErrand, brought_to, own_of}
use Rattle.node_crowd.specs.Working.{IsBrought}
use Rattle.node_crowd.specs.declared.errand.Errand.{Errand}

-- ---- items by their places

module _ {A : Type 0} (P : A → Type 0) where
  all_by_places : (xs : List A) → ((place : ℕ) (x : A) → place < length xs → slice_get xs place ≡ Some x → P x) → AllByRecursion P xs
  all_by_places [] each = tt
  all_by_places (x ∷ xs) each = (each 0 x (omega arith) refl, all_by_places xs (λ place y lt is. each (suc place) y (omega arith) is))

  all_get : (xs : List A) (place : ℕ) (x : A) → AllByRecursion P xs → slice_get xs place ≡ Some x → P x
  all_get [] place x all is = absurd cc
  all_get (y ∷ ys) zero x all is = let same : y ≡ x = cc in subst P same all.0
  all_get (y ∷ ys) (suc place) x all is = all_get ys place x all.1 is

  -- what holds of all that these lists have
  brought_holds : (lists : List (List A)) (x : A) → AllByRecursion (AllByRecursion P) lists → IsBrought x lists → P x
  brought_holds [] x all is = absurd is
  brought_holds (list ∷ lists) x all (inl is) = all_get list is.0 x all.0 is.1
  brought_holds (list ∷ lists) x all (inr is) = brought_holds lists x all.1 is

some_more : (n : ℕ) → (n ≡ 0 → ⊥) → 0 < n
some_more zero other = absurd (other refl)
some_more (suc n) other = omega arith

-- ---- a history

module _ {I : Type 0} where
  -- a list has what stands at one of its places
  stands_there : (inputs : List I) (places : List ℕ) (list : List I) (place : ℕ) (input : I) → StandAt inputs places list → 0 < times place places
      → slice_get inputs place ≡ Some input → (at : ℕ) × (slice_get list at ≡ Some input)
  stands_there inputs [] list place input stand there is = absurd (omega (arith, there))
  stands_there inputs (p ∷ places) [] place input stand there is = absurd stand
  stands_there inputs (p ∷ places) (i ∷ list) place input stand there is =
      dite (ℕ_discrete place p)
      (λ same. (0, sym (subst (λ n. slice_get inputs n ≡ Some i) (sym same) stand.0) ∙ is))
      (λ other.
      let none : one_if (place == p) ≡ 0 = rw (ne_eqb place p other) refl in
      let rest = stands_there inputs places list place input stand.1 (omega (arith, there, none)) is in
      (suc rest.0, rest.1))

  -- one of the lists has it
  brought_there : (inputs : List I) (places : List (List ℕ)) (lists : List (List I)) (place : ℕ) (input : I) → AllZip (StandAt inputs) places lists
      → 0 < total (times place) places → slice_get inputs place ≡ Some input → IsBrought input lists
  brought_there inputs [] lists place input stand there is = absurd (omega (arith, there))
  brought_there inputs (ps ∷ places) [] place input stand there is = absurd stand
  brought_there inputs (ps ∷ places) (list ∷ lists) place input stand there is =
      dite (ℕ_discrete (times place ps) 0)
      (λ none. inr (brought_there inputs places lists place input stand.1 (omega (arith, there, none)) is))
      (λ other. inl (stands_there inputs ps list place input stand.0 (some_more (times place ps) other) is))

module _ {I N : Type 0} where
  stand_all : (seen history : List (I × N)) (places : List (List ℕ)) (lists : List (List I)) → BeginsWith history seen
      → AllZip (StandAt (inputs_of seen)) places lists → AllZip (StandAt (inputs_of history)) places lists
  stand_all seen history [] [] begins all = tt
  stand_all seen history [] (list ∷ lists) begins all = all
  stand_all seen history (ps ∷ places) [] begins all = all
  stand_all seen history (ps ∷ places) (list ∷ lists) begins all = (
    subst (λ h. StandAt (inputs_of h) ps list) (sym begins.1)
        (subst (λ l. StandAt l ps list) (sym (map-append (λ (call : I × N). call.0) seen begins.0)) (stand_more (inputs_of seen) (inputs_of begins.0) ps list all.0)),
    stand_all seen history places lists begins all.1,
  )

module _ {S I N R F : Type 0} (next : S → I → N → R × S) (finish : R → F) (first : S) where
  -- the history of a seat that has all calls has what was brought alone
  pub carries_brought : (seen history : List (I × N)) (own : List ℕ) (told : List (ℕ × F)) (lists : List (List I)) → Carries next finish first seen own told lists
      → BeginsWith history seen → HasEachBelow (length history) own → AllByRecursion (λ input. IsBrought input lists) (inputs_of history)
  carries_brought seen history own told lists carries begins all =
      all_by_places (λ input. IsBrought input lists) (inputs_of history)
      (λ place input lt is.
      let many = length-map history (λ (call : I × N). call.0) in
      let one = all place in
      let here = once_below-lt (length history) place (omega (arith, lt, many)) in
      let own_are = carries.own_are place in
      brought_there (inputs_of history) carries.places lists place input (stand_all seen history carries.places lists begins carries.there) (omega (arith, one, here, own_are)) is)

-- ---- errands

module _ {I : Type 0} where
  numbered_at : (number : I → ℕ) (from : ℕ) (errands : List (Errand I)) (place : ℕ) (errand : Errand I) → AreNumbered number from errands → slice_get errands place ≡ Some errand
      → number errand.input ≡ from + place
  numbered_at number from [] place errand numbered is = absurd cc
  numbered_at number from (e ∷ errands) zero errand numbered is =
      let same : e ≡ errand = cc in
      let here : number errand.input ≡ from = subst (λ (x : Errand I). number x.input ≡ from) same numbered.1 in omega (arith, here)
  numbered_at number from (e ∷ errands) (suc place) errand numbered is =
      let rest = numbered_at number (from + 1) errands place errand numbered.2 is in omega (arith, rest)

  -- each errand is that of its number
  all_numbered : (number : I → ℕ) (errands : List (Errand I)) → AreNumbered number 0 errands → AllByRecursion (λ errand. slice_get errands (number errand.input) ≡ Some errand) errands
  all_numbered number errands numbered =
      all_by_places (λ errand. slice_get errands (number errand.input) ≡ Some errand) errands
      (λ place errand lt is. subst (λ n. slice_get errands n ≡ Some errand) (sym (zero_less place (number errand.input) (numbered_at number 0 errands place errand numbered is))) is)
    where
      zero_less : (place n : ℕ) → n ≡ 0 + place → n ≡ place
      zero_less place n is = omega (arith, is)

  -- what holds of all errands holds of those of a worker
  pub own_all : (Q : Errand I → Type 0) (workers worker : ℕ) (errands : List (Errand I)) → AllByRecursion Q errands → AllByRecursion Q (own_of workers worker errands)
  own_all Q workers worker [] all = tt
  own_all Q workers worker (e ∷ errands) all = kept (e.number % workers == worker) (own_of workers worker errands) (own_all Q workers worker errands all.1)
    where
      kept : (b : Bool) (own : List (Errand I)) → AllByRecursion Q own → AllByRecursion Q (if b then e ∷ own else own)
      kept true own rest = (all.0, rest)
      kept false own rest = rest

  -- and what holds of the inputs of those that go to a place
  brought_all : (P : I → Type 0) (Q : Errand I → Type 0) (place : ℕ) (errands : List (Errand I)) → ((errand : Errand I) → errand.place ≡ place → Q errand → P errand.input)
      → AllByRecursion Q errands → AllByRecursion P (brought_to place errands)
  brought_all P Q place [] leads all = tt
  brought_all P Q place (e ∷ errands) leads all = kept (e.place == place) refl (brought_to place errands) (brought_all P Q place errands leads all.1)
    where
      kept : (b : Bool) → (e.place == place) ≡ b → (rest : List I) → AllByRecursion P rest → AllByRecursion P (if b then e.input ∷ rest else rest)
      kept true is rest each = (leads e (eqb-true e.place place is) all.0, each)
      kept false is rest each = each

  of_errands : (number : I → ℕ) (workers : ℕ) (errands : List (Errand I)) (place : ℕ) (ws : List ℕ) → AreNumbered number 0 errands
      → AllByRecursion (AllByRecursion (IsOfErrand number errands place)) (map (λ worker. brought_to place (own_of workers worker errands)) ws)
  of_errands number workers errands place [] numbered = tt
  of_errands number workers errands place (w ∷ ws) numbered = (
    brought_all (IsOfErrand number errands place) (λ errand. slice_get errands (number errand.input) ≡ Some errand) place (own_of workers w errands)
        (λ errand goes there. record { errand = errand; there = there; goes = goes; input_is = refl })
        (own_all (λ errand. slice_get errands (number errand.input) ≡ Some errand) workers w errands (all_numbered number errands numbered)),
    of_errands number workers errands place ws numbered,
  )

  -- each input that the workers brought to a place is that of its errand
  pub inputs_of_errands : (number : I → ℕ) (workers : ℕ) (errands : List (Errand I)) (place : ℕ) (ws : List ℕ) (inputs : List I) → AreNumbered number 0 errands
      → AllByRecursion (λ input. IsBrought input (map (λ worker. brought_to place (own_of workers worker errands)) ws)) inputs
      → AllByRecursion (IsOfErrand number errands place) inputs
  inputs_of_errands number workers errands place ws [] numbered all = tt
  inputs_of_errands number workers errands place ws (input ∷ inputs) numbered all = (
    brought_holds (IsOfErrand number errands place) (map (λ worker. brought_to place (own_of workers worker errands)) ws) input
        (of_errands number workers errands place ws numbered) all.0,
    inputs_of_errands number workers errands place ws inputs numbered all.1,
  )
