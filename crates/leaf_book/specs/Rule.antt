-- The rule of a book: what holds, at every moment, of its word and of what all seats know.
use Rattle.std.specs.Prelude.{ℕ, ◌≡◌, ◌≤◌, ◌<◌, ◌+◌, ◌^◌, min, List, [], ◌∷◌}
use mathlib.Core.Option.{some}
use lib.ListN.{get_elem?}
use Rattle.ar_seats.specs.Shares.{whole}
use Rattle.ar_seats.specs.Totals.{total}
use Rattle.ar_seats.specs.Numbers.{times, once_below}
use Rattle.atomic_table.specs.Table.{State}
use Rattle.leaf_book.specs.declared.held.Held.{Held}

-- What a seat knows fits the book. A seat that was joined into another has no share, no leaf and no
-- overshoot.
pub record Fits (leaves word : ℕ) (seat : Held) : Type 0 where
  pub book : 0 < seat.share → seat.leaves ≡ leaves
  pub seen : seat.seen ≤ word
  pub over : seat.over ≤ seat.share
  pub spent : 0 < seat.over → leaves ≤ seat.seen
  pub idle : seat.share ≡ 0 → seat.drawn ≡ []

-- The shares are together the whole. Each number below both the word and the number of leaves stands
-- once in the lists of all seats, and no other number does. The word passes the number of leaves by no
-- more than the seats have added there.
pub record Keeps (leaves word : ℕ) (seats : List Held) : Type 0 where
  pub few : leaves < 2 ^ 32
  pub shares : total (λ (seat : Held). seat.share) seats ≡ whole
  pub fits : (place : ℕ) (seat : Held) → get_elem? seats place ≡ some seat → Fits leaves word seat
  pub once : (leaf : ℕ) → total (λ (seat : Held). times leaf seat.drawn) seats ≡ once_below (min word leaves) leaf
  pub bound : word ≤ leaves + total (λ (seat : Held). seat.over) seats

-- a table with one word and these seats keeps the rule
abbrev pub IsKept : ℕ → State (Unit {0}) Held → Type 0
IsKept leaves table = (word : ℕ) × (table.words ≡ word ∷ []) × Keeps leaves word table.views
