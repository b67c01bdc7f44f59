-- What a worker does with its row of stalls, and what is gathered of the rows of all workers.
use Rattle.std.specs.Prelude.{◌≡◌, ℕ, ◌<◌, ◌≤◌, ◌⊎◌, List, [], ◌∷◌, Some, length, map, slice_get}
use Rattle.std.specs.List.{AllByRecursion, AllZip}
use Rattle.ar_seats.specs.Numbers.{times}
use Rattle.ar_seats.specs.Shares.{whole}
use Rattle.ar_seats.specs.Totals.{total}
use Rattle.node_core.specs.History.{Replays, replies}
use Rattle.seat_orders.specs.Carrying.{inputs_of}
use Rattle.seat_orders.specs.Orders.{IsInterleaving}
use Rattle.shared_node.specs.Seats.{NodeParts}
use Rattle.node_crowd.specs.Along.{EachFrom}
use Rattle.node_crowd.specs.Bringing.{brought_to}
use Rattle.node_crowd.specs.Stalls.{HasGathered, HasServed, IsIdle, StallParts, share_at}
use Rattle.node_crowd.specs.declared.errand.Errand.{Errand}

module _ {S I N T B : Type 0} (node_of : B → NodeParts S) where
  -- a worker can begin: each errand goes to one of the nodes, and its row has a stall at each, at which nothing was done
  pub record IsReady (booths : List B) (row : List (StallParts S I N T)) (errands : List (Errand I)) : Type 0 where
    pub there : AllByRecursion (λ errand. errand.place < length booths) errands
    pub idle : AllZip (λ booth stall. IsIdle (node_of booth) stall) booths row

  module _ {R : Type 0} (next : S → I → N → R × S) (finish_of : B → R → T) where
    -- a row served what was brought to each place
    abbrev pub RowServes : List B → List (StallParts S I N T) → (ℕ → List I) → Type 0
    RowServes booths row list = EachFrom (λ place booth stall. HasServed next (node_of booth) (finish_of booth) stall (list place)) 0 booths row

    -- a row gathered what was brought to each place, by the lists of several workers
    abbrev pub RowGathers : List B → List (StallParts S I N T) → (ℕ → List (List I)) → Type 0
    RowGathers booths row lists = EachFrom (λ place booth stall. HasGathered next (node_of booth) (finish_of booth) stall (lists place)) 0 booths row

    -- a row gathered what these rows served, whatever was brought to each of them
    abbrev pub Gathers : {Row : Type 0} → (Row → List (StallParts S I N T)) → List B → List (StallParts S I N T) → List Row → Type 0
    Gathers stalls_of booths base rows =
        (lists : List (ℕ → List I)) → AllZip (λ row list. RowServes booths (stalls_of row) list) rows lists
        → RowGathers booths base (λ place. map (λ list. list place) lists)

    -- a worker has brought its errands: its row served them, and has the shares that it had
    pub record HasWorked (booths : List B) (old new : List (StallParts S I N T)) (errands : List (Errand I)) : Type 0 where
      pub served : RowServes booths new (λ place. brought_to place errands)
      pub shares : (place : ℕ) → share_at place new ≡ share_at place old

-- a core with what finishes its replies became a node with that, and a stall that has the whole share, at which nothing was done
pub record IsOpened {C S I N T F : Type 0} (state : C → S) (core : C) (finish : F) (node : NodeParts S) (finishes : F) (stall : StallParts S I N T) : Type 0 where
  pub first : node.first ≡ state core
  pub finish_is : finishes ≡ finish
  pub idle : IsIdle node stall
  pub share : stall.seat.share ≡ whole

-- one of these lists has the input
abbrev pub IsBrought : {I : Type 0} → I → List (List I) → Type 0
IsBrought input [] = ⊥
IsBrought input (list ∷ lists) = ((place : ℕ) × (slice_get list place ≡ Some input)) ⊎ IsBrought input lists

module _ {S I N R T : Type 0} (next : S → I → N → R × S) (legal : S → I → N → Type 0) (finish : R → T) (first : S) where
  -- What a node gives back to which these lists of inputs were brought, each by a worker: its history is legal and leads from the
  -- first state to where the core stands; the replies are those to the calls of the history, each finished; each input was brought;
  -- and where the inputs have numbers that are apart, the history has them in an order that is an interleaving of the lists.
  pub record IsTaken (lists : List (List I)) (history : List (I × N)) (now : S) (finished : List T) : Type 0 where
    pub replays : Replays next legal first history now
    pub replied : finished ≡ map finish (replies next first history)
    pub brought : AllByRecursion (λ input. IsBrought input lists) (inputs_of history)
    pub order : (number : I → ℕ) → ((x : ℕ) → total (times x) (map (map number) lists) ≤ 1)
        → IsInterleaving (map number (inputs_of history)) (map (map number) lists)
