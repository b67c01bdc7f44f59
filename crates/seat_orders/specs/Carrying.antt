-- What seats of a node have done: the inputs that each worker brought stand in the history in the worker's order, and each is
-- told its reply.
use Rattle.std.specs.Prelude.{◌≡◌, ℕ, List, [], ◌∷◌, Some, map, slice_get}
use Rattle.std.specs.List.{AllByRecursion, AllZip}
use Rattle.ar_seats.specs.Numbers.{times}
use Rattle.ar_seats.specs.Totals.{total}
use Rattle.node_core.specs.History.{replies}
use Rattle.seat_orders.specs.Orders.{IsSubsequence}

-- the inputs of the calls of a history
abbrev pub inputs_of : {I N : Type 0} → List (I × N) → List I
inputs_of history = map (λ call. call.0) history

-- these items stand in the list at these places
abbrev pub StandAt : {A : Type 0} → List A → List ℕ → List A → Type 0
StandAt list [] [] = Unit {0}
StandAt list [] (item ∷ items) = ⊥
StandAt list (place ∷ places) [] = ⊥
StandAt list (place ∷ places) (item ∷ items) = (slice_get list place ≡ Some item) × StandAt list places items

-- the places of what was told
abbrev pub places_of : {F : Type 0} → List (ℕ × F) → List ℕ
places_of told = map (λ t. t.0) told

-- What a core replies is finished before it is told, as a signature is put into it.
module _ {S I N R F : Type 0} (next : S → I → N → R × S) (finish : R → F) (first : S) where
  -- what was told is the place of a call in the history, with the reply to that call
  abbrev pub IsTold : List (I × N) → ℕ × F → Type 0
  IsTold history told = slice_get (map finish (replies next first history)) told.0 ≡ Some told.1

  -- A seat that has seen so much of the history, with these own calls, brought these inputs, in this order, and this was told.
  pub record Serves (seen : List (I × N)) (own : List ℕ) (told : List (ℕ × F)) (brought : List I) : Type 0 where
    pub ordered : IsSubsequence brought (inputs_of seen)
    pub places : StandAt (inputs_of seen) own brought
    pub own_is : places_of told ≡ own
    pub replies_are : AllByRecursion (IsTold seen) told

  -- The same of a seat that took in those of several workers, with what each of them brought.
  pub record Carries (seen : List (I × N)) (own : List ℕ) (told : List (ℕ × F)) (lists : List (List I)) : Type 0 where
    pub each : AllByRecursion (λ brought. IsSubsequence brought (inputs_of seen)) lists
    pub places : List (List ℕ)
    pub there : AllZip (StandAt (inputs_of seen)) places lists
    pub own_are : (place : ℕ) → times place own ≡ total (times place) places
    pub told_are : (place : ℕ) → times place (places_of told) ≡ times place own
    pub replies_are : AllByRecursion (IsTold seen) told
