-- A book of leaves as contracts see it, with its seats and its leaves.
use Rattle.std.specs.Prelude.{ℕ, ◌≡◌, ◌≤◌, ◌<◌, ◌+◌, ◌-◌, max, min, List, [], ◌∷◌, ◌++◌, Contains}
use Rattle.ar_seats.specs.Shares.{given_of, left_of}
use Rattle.atomic_table.specs.Seated.{TableId}

-- which book it is, and how many leaves it has
pub record LeafBookParts : Type 0 where
  pub table : TableId
  pub leaves : ℕ

-- a seat: its book, its share, the leaves that it drew or took in, how often it added to the word where
-- no leaf was left, and what the word is known to have reached
pub record LeafSeatParts : Type 0 where
  pub book : LeafBookParts
  pub share : ℕ
  pub drawn : List ℕ
  pub over : ℕ
  pub seen : ℕ

-- a leaf that was drawn, of a book with this many leaves
pub record Drawn : Type 0 where
  pub number : ℕ
  pub leaves : ℕ

-- the seat that a book begins with
abbrev pub first_seat : LeafBookParts → ℕ → LeafSeatParts
first_seat book share = record { book = book; share = share; drawn = []; over = 0; seen = 0 }

-- a leaf was drawn: one of the book's, none that the word had passed when the seat last saw it, and the
-- seat has it
pub record Draws (old : LeafSeatParts) (leaf : ℕ) (new : LeafSeatParts) : Type 0 where
  pub below : leaf < old.book.leaves
  pub later : old.seen ≤ leaf
  pub after : new ≡ record old { drawn = old.drawn ++ leaf ∷ []; seen = leaf + 1 }

-- no leaf was drawn: the word was found past all leaves
pub record FindsNone (old : LeafSeatParts) (word : ℕ) (new : LeafSeatParts) : Type 0 where
  pub past : old.book.leaves ≤ word
  pub later : old.seen ≤ word
  pub after : new ≡ record old { over = new.over; seen = word }

-- what is left of a seat that is split: the greater half of its share, and all its leaves
abbrev pub left_seat : LeafSeatParts → LeafSeatParts
left_seat seat = record seat { share = left_of seat.share; over = min seat.over (left_of seat.share) }

-- what is given of it: the rest of the share, and no leaf
abbrev pub given_seat : LeafSeatParts → LeafSeatParts
given_seat seat = record seat { share = given_of seat.share; drawn = []; over = seat.over - left_of seat.share }

-- a seat that took in another
abbrev pub joined_seat : LeafSeatParts → LeafSeatParts → LeafSeatParts
joined_seat seat other =
    record { book = seat.book; share = seat.share + other.share; drawn = seat.drawn ++ other.drawn; over = seat.over + other.over; seen = max seat.seen other.seen }

-- no leaf stands in both lists
abbrev pub AreApart : List ℕ → List ℕ → Type 0
AreApart leaves others = (leaf : ℕ) → Contains leaves leaf → ¬ Contains others leaf
