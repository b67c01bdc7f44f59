-- Stalls of workers at nodes: a stall is a seat with what was told there.
use Rattle.std.specs.Prelude.{◌≡◌, ℕ, ◌+◌, ◌≤◌, ◌^◌, List, [], ◌++◌, map, get_or}
use Rattle.std.specs.List.{AllByRecursion}
use Rattle.seat_orders.specs.Carrying.{Carries, Serves}
use Rattle.shared_node.specs.Seats.{IsSeatOf, NodeParts, SeatParts}

-- a seat of a node, and the places and replies that were told of its calls and of those of the seats that it took in
pub record StallParts (S I N T : Type 0) : Type 0 where
  pub seat : SeatParts S I N
  pub told : List (ℕ × T)

module _ {S I N T : Type 0} where
  -- a stall at the node
  abbrev pub IsStallOf : NodeParts S → StallParts S I N T → Type 0
  IsStallOf node stall = IsSeatOf node stall.seat

  -- a stall at the node at which nothing was done
  pub record IsIdle (node : NodeParts S) (stall : StallParts S I N T) : Type 0 where
    pub own : IsSeatOf node stall.seat
    pub none : stall.seat.own ≡ []
    pub untold : stall.told ≡ []

  -- the share that a row of stalls has at the node of a place; 0 where there is none
  abbrev pub share_at : ℕ → List (StallParts S I N T) → ℕ
  share_at place row = get_or (map (λ stall. stall.seat.share) row) place 0

  -- each stall of a row can be split so many times, one after another, where what is kept is not the lesser half
  abbrev pub CanBeSplit : ℕ → List (StallParts S I N T) → Type 0
  CanBeSplit many row = AllByRecursion (λ stall. 2 ^ many ≤ stall.seat.share) row

  -- a stall is split: both are idle, and have the share together, of which the new one has no more than is kept
  pub record IsSplit (node : NodeParts S) (old new given : StallParts S I N T) : Type 0 where
    pub kept : IsIdle node new
    pub idle : IsIdle node given
    pub shares : new.seat.share + given.seat.share ≡ old.seat.share
    pub half : given.seat.share ≤ new.seat.share

  module _ {R : Type 0} (next : S → I → N → R × S) where
    -- a stall took in another: it has the share of both, and carries what both carried
    pub record IsJoined (node : NodeParts S) (old other new : StallParts S I N T) : Type 0 where
      pub own : IsSeatOf node new.seat
      pub shares : new.seat.share ≡ old.seat.share + other.seat.share
      pub carries : (finish : R → T) (lists others : List (List I))
          → Carries next finish node.first old.seat.seen old.seat.own old.told lists
          → Carries next finish node.first other.seat.seen other.seat.own other.told others
          → Carries next finish node.first new.seat.seen new.seat.own new.told (lists ++ others)

    -- what a stall served: these inputs, by its seat of the node
    pub record HasServed (node : NodeParts S) (finish : R → T) (stall : StallParts S I N T) (brought : List I) : Type 0 where
      pub own : IsSeatOf node stall.seat
      pub served : Serves next finish node.first stall.seat.seen stall.seat.own stall.told brought

    -- what a stall gathered: what these lists brought, each of a worker
    pub record HasGathered (node : NodeParts S) (finish : R → T) (stall : StallParts S I N T) (lists : List (List I)) : Type 0 where
      pub own : IsSeatOf node stall.seat
      pub carried : Carries next finish node.first stall.seat.seen stall.seat.own stall.told lists
