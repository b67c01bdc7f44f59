-- What workers bring to several nodes, and what is replied to it.
use Rattle.std.specs.Prelude.{◌≡◌, ℕ, ◌+◌, ◌%◌, ◌==◌, Bool, if◌then◌else◌, List, [], ◌∷◌, ◌++◌, Some, map, slice_get}
use Rattle.std.specs.List.{AllByRecursion}
use Rattle.node_core.specs.History.{IsLegal, reply_after}
use Rattle.seat_orders.specs.Dealing.{dealt_lists}
use Rattle.seat_orders.specs.Orders.{IsInterleaving}
use Rattle.node_crowd.specs.declared.errand.Errand.{Errand}

module _ {S I N R : Type 0} (next : S → I → N → R × S) (legal : S → I → N → Type 0) where
  -- a reply is one that a core gives somewhere in a legal history, where P holds of its first state
  pub record IsReplied (P : S → Type 0) (reply : R) : Type 0 where
    pub first : S
    pub fits : P first
    pub before : List (I × N)
    pub input : I
    pub note : N
    pub legally : IsLegal next legal first (before ++ (input, note) ∷ [])
    pub reply_is : reply ≡ reply_after next first before input note

module _ {I : Type 0} where
  -- an errand goes to the node of this place
  abbrev pub goes_to : ℕ → Errand I → Bool
  goes_to place errand = errand.place == place

  -- what of these errands goes to the node of this place, in their order
  abbrev pub brought_to : ℕ → List (Errand I) → List I
  brought_to place [] = []
  brought_to place (errand ∷ errands) = if errand.place == place then errand.input ∷ brought_to place errands else brought_to place errands

  -- the errands of a worker, in their order: those whose number has the worker's as its remainder by the number of workers
  abbrev pub own_of : ℕ → ℕ → List (Errand I) → List (Errand I)
  own_of workers worker [] = []
  own_of workers worker (errand ∷ errands) =
      if errand.number % workers == worker then errand ∷ own_of workers worker errands else own_of workers worker errands

  -- the errands have the numbers from this one on, and their inputs too
  abbrev pub AreNumbered : (I → ℕ) → ℕ → List (Errand I) → Type 0
  AreNumbered number from [] = Unit {0}
  AreNumbered number from (errand ∷ errands) = (errand.number ≡ from) × (number errand.input ≡ from) × AreNumbered number (from + 1) errands

  -- an input is that of the errand of its number, which goes to the node of this place
  pub record IsOfErrand (number : I → ℕ) (errands : List (Errand I)) (place : ℕ) (input : I) : Type 0 where
    pub errand : Errand I
    pub there : slice_get errands (number input) ≡ Some errand
    pub goes : errand.place ≡ place
    pub input_is : errand.input ≡ input

  -- The node of this place took these inputs: they stand in an order that is an interleaving of what was dealt to the workers, and
  -- each is the input of its errand.
  pub record TakesDealt (number : I → ℕ) (workers : ℕ) (errands : List (Errand I)) (place : ℕ) (inputs : List I) : Type 0 where
    pub order : IsInterleaving (map number inputs) (dealt_lists workers (goes_to place) errands)
    pub inputs_are : AllByRecursion (IsOfErrand number errands place) inputs
