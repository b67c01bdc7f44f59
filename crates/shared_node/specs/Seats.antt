-- A node and its seats as contracts see them.
use Rattle.std.specs.Prelude.{◌≡◌, ℕ, ◌+◌, Option, Some, List, [], ◌∷◌, ◌++◌, length}
use Rattle.ar_seats.specs.Shares.{given_of, left_of}
use Rattle.ar_seats.specs.Numbers.{merged}
use Rattle.ar_base.specs.Prefixes.{BeginsWith}
use Rattle.ar_seats.specs.Prefixes.{longer}
use Rattle.atomic_table.specs.Seated.{TableId}
use Rattle.node_core.specs.History.{IsLegal, reply_after}

-- which node it is, and the state of the core that it began with
pub record NodeParts (S : Type 0) : Type 0 where
  pub table : TableId
  pub first : S

-- a seat: its node's table and first state, the beginning of the history that it has seen, the places of
-- its own calls with those of the seats that it took in, and its share
pub record SeatParts (S I N : Type 0) : Type 0 where
  pub table : TableId
  pub first : Option S
  pub seen : List (I × N)
  pub own : List ℕ
  pub share : ℕ

module _ {S I N : Type 0} where
  -- a seat of this node
  abbrev pub IsSeatOf : NodeParts S → SeatParts S I N → Type 0
  IsSeatOf node seat = (seat.table ≡ node.table) × (seat.first ≡ Some node.first)

  -- the seat that a node begins with
  abbrev pub first_seat : NodeParts S → ℕ → SeatParts S I N
  first_seat node share = record { table = node.table; first = Some node.first; seen = []; own = []; share = share }

  -- the seat has seen as much of the history as it had, or more, and nothing else changed
  pub record SeesOn (old new : SeatParts S I N) : Type 0 where
    pub later : BeginsWith new.seen old.seen
    pub after : new ≡ record old { seen = new.seen }

  -- what is left of a seat that is split: the greater half of its share, and all its calls
  abbrev pub left_seat : SeatParts S I N → SeatParts S I N
  left_seat seat = record seat { share = left_of seat.share }

  -- what is given of it: the rest of the share, with all that was seen, and no call
  abbrev pub given_seat : SeatParts S I N → SeatParts S I N
  given_seat seat = record seat { share = given_of seat.share; own = [] }

  -- a seat that took in another: it has seen the longer beginning, and has the calls of both
  abbrev pub joined_seat : SeatParts S I N → SeatParts S I N → SeatParts S I N
  joined_seat seat other = record seat { seen = longer seat.seen other.seen; own = merged seat.own other.own; share = seat.share + other.share }

  -- a call was answered: it is the last of what the seat has now seen, which is legal; it stands at this
  -- place, behind all that the seat had seen; and the reply is the one that the core gives there
  pub record Answered {R : Type 0} (next : S → I → N → R × S) (legal : S → I → N → Type 0) (first : S) (old : SeatParts S I N) (input : I) (place : ℕ) (reply : R) (new : SeatParts S I N) : Type 0 where
    pub before : List (I × N)
    pub note : N
    pub later : BeginsWith before old.seen
    pub place_is : place ≡ length before
    pub legally : IsLegal next legal first (before ++ (input, note) ∷ [])
    pub reply_is : reply ≡ reply_after next first before input note
    pub after : new ≡ record old { seen = before ++ (input, note) ∷ []; own = old.own ++ place ∷ [] }
