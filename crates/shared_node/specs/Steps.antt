-- What each atomic step tells, and how views are split and joined.
use Rattle.std.specs.Prelude.{◌≡◌, ℕ, ◌+◌, ◌≤◌, ◌≢◌, true, false, nat_lt, if◌then◌else◌, Option, Some, None, List, [], ◌∷◌, ◌++◌, length}
use Rattle.ar_seats.specs.Shares.{given_of, left_of, whole}
use Rattle.ar_seats.specs.Numbers.{IsRising, merged}
use Rattle.ar_base.specs.Prefixes.{BeginsWith}
use Rattle.ar_seats.specs.Prefixes.{longer}
use Rattle.atomic_table.specs.Table.{Me, rest}
use Rattle.node_core.specs.History.{Replays}
use Rattle.shared_node.specs.declared.held.Held.{Held}
use Rattle.shared_node.specs.declared.node.Node.{Node}

-- the history beside a core that is out
abbrev pub history_in : {C I N : Type 0} → Option (Node C I N) → List (I × N)
history_in None = []
history_in (Some node) = node.history.items

-- the history beside the core that a seat has
abbrev pub carried : {C I N : Type 0} → List (ℕ × Option (Node C I N)) → List (I × N)
carried [] = []
carried (slot ∷ slots) = history_in slot.1

-- the shorter of two lists
abbrev pub shorter : {A : Type 0} → List A → List A → List A
shorter one other = if nat_lt (length one) (length other) then one else other

-- what a seat knows, and the slot that it has
abbrev pub Mine : Type 0 → Type 0 → Type 0 → Type 0 → Type 0
Mine C S I N = Me (Option (Node C I N)) (Held S I N)

module _ {C S I N : Type 0} where
  -- a load of the length: the seat has seen a history of this length
  pub record Looks (me : Mine C S I N) (found : ℕ) (after : Mine C S I N) : Type 0 where
    pub length_is : length after.0.seen ≡ found
    pub later : BeginsWith after.0.seen me.0.seen
    pub seat : after.0 ≡ record me.0 { seen = after.0.seen }
    pub slots : after.1 ≡ me.1

  -- a load that leaves the view as it is: the share is no more than the whole, the own calls rise, and what the seat has seen
  -- begins with both that were joined
  pub record Compares (me : Mine C S I N) (found : ℕ) (after : Mine C S I N) : Type 0 where
    pub same : after ≡ me
    pub share : me.0.share ≤ whole
    pub rising : IsRising me.0.own
    pub both : BeginsWith me.0.seen me.0.shorter

  -- an addition to the length by the seat that has the core, with one more call beside it
  pub record Counts (me : Mine C S I N) (found : ℕ) (after : Mine C S I N) : Type 0 where
    pub found_is : found ≡ length me.0.seen
    pub after_is : after ≡ (record me.0 { seen = carried me.1; own = me.0.own ++ found ∷ [] }, me.1)

  -- the core was given back
  abbrev pub LeavesSeat : Mine C S I N → ℕ → Mine C S I N → Type 0
  LeavesSeat me found after = after ≡ (record me.0 { holds = false }, rest me.1)

module _ {S I N : Type 0} where
  -- what the first seat knows
  abbrev pub first_view : S → Held S I N
  first_view first = record { first = Some first; seen = []; shorter = []; own = []; share = whole; holds = false }

  abbrev pub left_view : Held S I N → Held S I N
  left_view seat = record seat { share = left_of seat.share }

  abbrev pub given_view : Held S I N → Held S I N
  given_view seat = record { first = seat.first; seen = seat.seen; shorter = []; own = []; share = given_of seat.share; holds = false }

  abbrev pub joined_view : Held S I N → Held S I N → Held S I N
  joined_view seat other = record seat { seen = longer seat.seen other.seen; shorter = shorter seat.seen other.seen; own = merged seat.own other.own; share = seat.share + other.share }

  -- what a seat that was joined into another leaves behind
  abbrev pub spent_view : Held S I N
  spent_view = record { first = None; seen = []; shorter = []; own = []; share = 0; holds = false }

module _ {C S I N R : Type 0} (state : C → S) (next : S → I → N → R × S) (legal : S → I → N → Type 0) where
  -- the core was taken out: the seat has seen the history beside it, which replays to it
  pub record Takes (me after : Mine C S I N) : Type 0 where
    pub node : Node C I N
    pub later : BeginsWith node.history.items me.0.seen
    pub replays : (first : S) → me.0.first ≡ Some first → Replays next legal first node.history.items (state node.core)
    pub after_is : after ≡ (record me.0 { seen = node.history.items; holds = true }, (0, Some node) ∷ me.1)

  -- an exchange of the number of holders from 0 to 1: the core was taken out where no seat had it
  pub record Enters (me : Mine C S I N) (found : ℕ) (after : Mine C S I N) : Type 0 where
    pub taken : found ≡ 0 → Takes me after
    pub none : found ≢ 0 → after ≡ me
