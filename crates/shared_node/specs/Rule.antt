-- The rule of a node: what holds, at every moment, of its two words, of its slot and of what all seats
-- know. The first word is the length of the history, the second how many seats have the core.
use Rattle.std.specs.Prelude.{◌≡◌, ℕ, ◌<◌, ◌≤◌, true, false, Option, Some, List, [], ◌∷◌, length}
use mathlib.Core.Option.{some}
use mathlib.Core.Option as home
use lib.ListN.{get_elem?}
use Rattle.ar_seats.specs.Shares.{whole}
use Rattle.ar_seats.specs.Totals.{total}
use Rattle.ar_base.specs.Counting.{one_if}
use Rattle.ar_seats.specs.Numbers.{IsRising, times, once_below}
use Rattle.ar_base.specs.Prefixes.{BeginsWith}
use Rattle.atomic_table.specs.Table.{State}
use Rattle.node_core.specs.History.{IsLegal, state_after}
use Rattle.shared_node.specs.declared.held.Held.{Held}
use Rattle.shared_node.specs.declared.node.Node.{Node}

-- What a seat knows fits the history. What it has seen begins with both beginnings that it was joined of. The seat that has the core
-- has seen the history whole. A seat that was
-- joined into another has no share, no call and no core.
pub record Fits {S I N : Type 0} (first : S) (history : List (I × N)) (seat : Held S I N) : Type 0 where
  pub node : 0 < seat.share → seat.first ≡ Some first
  pub seen : BeginsWith history seat.seen
  pub shorter : BeginsWith seat.seen seat.shorter
  pub rising : IsRising seat.own
  pub holding : seat.holds ≡ true → seat.seen ≡ history
  pub idle : seat.share ≡ 0 → (seat.own ≡ []) × (seat.holds ≡ false)

module _ {C S I N R : Type 0} (state : C → S) (next : S → I → N → R × S) (legal : S → I → N → Type 0) where
  -- the core lies in the slot, in the state after the history, which lies beside it
  pub record IsHome (first : S) (history : List (I × N)) (slots : List (home.Option (Option (Node C I N)))) : Type 0 where
    pub node : Node C I N
    pub there : slots ≡ some (Some node) ∷ []
    pub history_is : node.history.items ≡ history
    pub state_is : state_after next first history ≡ state node.core

  -- The history is legal. The shares are together the whole. Each place of the history stands once in the
  -- lists of own calls of all seats, and no other number does. At most one seat has the core, and while
  -- none has, it is home.
  pub record Keeps (first : S) (history : List (I × N)) (holders : ℕ) (slots : List (home.Option (Option (Node C I N)))) (seats : List (Held S I N)) : Type 0 where
    pub legally : IsLegal next legal first history
    pub shares : total (λ (seat : Held S I N). seat.share) seats ≡ whole
    pub fits : (place : ℕ) (seat : Held S I N) → get_elem? seats place ≡ some seat → Fits first history seat
    pub once : (place : ℕ) → total (λ (seat : Held S I N). times place seat.own) seats ≡ once_below (length history) place
    pub held : total (λ (seat : Held S I N). one_if seat.holds) seats ≡ holders
    pub one : holders ≤ 1
    pub slot : length slots ≡ 1
    pub home : holders ≡ 0 → IsHome first history slots

  -- a table with these words, this slot and these seats keeps the rule
  abbrev pub IsKept : S → State (Option (Node C I N)) (Held S I N) → Type 0
  IsKept first table =
      (history : List (I × N)) × (holders : ℕ) × (table.words ≡ length history ∷ (holders ∷ [])) × Keeps first history holders table.homes table.views
