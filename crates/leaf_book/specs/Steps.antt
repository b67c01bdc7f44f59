-- What each atomic step on the word tells, and how views are split and joined.
use Rattle.std.specs.Prelude.{ℕ, ◌≡◌, ◌≤◌, ◌+◌, ◌-◌, max, min, nat_lt, if◌then◌else◌, [], ◌∷◌, ◌++◌}
use Rattle.ar_seats.specs.Shares.{given_of, left_of, whole}
use Rattle.ar_seats.specs.Numbers.{times}
use Rattle.atomic_table.specs.Table.{Me}
use Rattle.leaf_book.specs.declared.held.Held.{Held}

-- what the first seat knows
abbrev pub first_view : ℕ → Held
first_view leaves = record { leaves = leaves; share = whole; drawn = []; over = 0; seen = 0 }

-- a load: the word has not fallen, and the seat has seen it
abbrev pub looks : Me (Unit {0}) Held → ℕ → Me (Unit {0}) Held → Type 0
looks me found after = (me.0.seen ≤ found) × (after ≡ (record me.0 { seen = found }, me.1))

-- the view after one was added to the word: below the number of leaves the word was a leaf, and else the
-- addition was one too many
abbrev pub after_draw : Held → ℕ → Held
after_draw seat found =
    if nat_lt found seat.leaves then record seat { drawn = seat.drawn ++ found ∷ []; seen = found + 1 }
    else record seat { over = seat.over + 1; seen = found }

-- an addition
abbrev pub draws : Me (Unit {0}) Held → ℕ → Me (Unit {0}) Held → Type 0
draws me found after = (me.0.seen ≤ found) × (after ≡ (after_draw me.0 found, me.1))

-- a load that leaves the view as it is: the share is no more than the whole, and no leaf stands twice
abbrev pub compares : Me (Unit {0}) Held → ℕ → Me (Unit {0}) Held → Type 0
compares me found after = (after ≡ me) × (me.0.share ≤ whole) × ((leaf : ℕ) → times leaf me.0.drawn ≤ 1)

abbrev pub left_view : Held → Held
left_view seat = record seat { share = left_of seat.share; over = min seat.over (left_of seat.share) }

abbrev pub given_view : Held → Held
given_view seat = record seat { share = given_of seat.share; drawn = []; over = seat.over - left_of seat.share }

abbrev pub joined_view : Held → Held → Held
joined_view seat other =
    record { leaves = seat.leaves; share = seat.share + other.share; drawn = seat.drawn ++ other.drawn; over = seat.over + other.over; seen = max seat.seen other.seen }

-- what a seat that was joined into another leaves behind
abbrev pub spent_view : Held
spent_view = record { leaves = 0; share = 0; drawn = []; over = 0; seen = 0 }
