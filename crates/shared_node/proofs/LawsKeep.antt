-- What follows from the rule of a node.
use Rattle.std.proofs.Common.{◌≡◌, ◌≢◌, ℕ, ◌<◌, Option, List, length, Contains, arith}
use mathlib.Core.Option.{some}
use mathlib.Core.Option as home
use mathlib.Core.Logic.{dite}
use native.Mathlib.Decide.{dec_lt}
use lib.ListN.{get_elem?}
use Rattle.ar_seats.specs.Numbers.{times}
use Rattle.ar_base.specs.Prefixes.{BeginsWith}
use Rattle.ar_seats.specs.Prefixes.{longer}
use Rattle.ar_seats.proofs.TotalsLemmas.{one-le-total, two-le-total, one_of_total}
use Rattle.ar_seats.proofs.NumbersLemmas.{once_below-lt, once_below-le, once_below-le-1, times_of_place, place_of_times}
use Rattle.ar_seats.proofs.PrefixLemmas.{longer_begins}
use Rattle.shared_node.specs.Rule.{Keeps}
use Rattle.shared_node.specs.declared.held.Held.{Held}
use Rattle.shared_node.specs.declared.node.Node.{Node}

module _ {C S I N R : Type 0} (state : C → S) (next : S → I → N → R × S) (legal : S → I → N → Type 0) where
  pub one_history : (first : S) (history : List (I × N)) (holders : ℕ) (slots : List (home.Option (Option (Node C I N)))) (seats : List (Held S I N)) (one two : ℕ) (seat other : Held S I N)
      → Keeps state next legal first history holders slots seats → get_elem? seats one ≡ some seat → get_elem? seats two ≡ some other
      → BeginsWith (longer seat.seen other.seen) seat.seen × BeginsWith (longer seat.seen other.seen) other.seen
  one_history first history holders slots seats one two seat other kept at there =
      longer_begins history seat.seen other.seen (kept.fits one seat at).seen (kept.fits two other there).seen

  pub own_apart : (first : S) (history : List (I × N)) (holders : ℕ) (slots : List (home.Option (Option (Node C I N)))) (seats : List (Held S I N)) (one two place : ℕ) (seat other : Held S I N)
      → Keeps state next legal first history holders slots seats → one ≢ two → get_elem? seats one ≡ some seat → get_elem? seats two ≡ some other
      → Contains seat.own place → Contains other.own place → ⊥
  own_apart first history holders slots seats one two place seat other kept apart at there here too =
      let mine = times_of_place seat.own here.0 place here.1 here.2 in
      let others = times_of_place other.own too.0 place too.1 too.2 in
      omega (arith, two-le-total (λ (s : Held S I N). times place s.own) seats one two seat other apart at there, kept.once place, once_below-le-1 (length history) place)

  pub some_seat_made : (first : S) (history : List (I × N)) (holders : ℕ) (slots : List (home.Option (Option (Node C I N)))) (seats : List (Held S I N)) (place : ℕ)
      → Keeps state next legal first history holders slots seats → place < length history
      → (there : ℕ) × (seat : Held S I N) × (get_elem? seats there ≡ some seat) × Contains seat.own place
  some_seat_made first history holders slots seats place kept within =
      let one = once_below-lt (length history) place within in
      let there = one_of_total (λ (s : Held S I N). times place s.own) seats (omega (arith, kept.once place)) in
      (there.0, there.1, there.2, place_of_times there.1.own place there.3)

  pub own_is_made : (first : S) (history : List (I × N)) (holders : ℕ) (slots : List (home.Option (Option (Node C I N)))) (seats : List (Held S I N)) (there place : ℕ) (seat : Held S I N)
      → Keeps state next legal first history holders slots seats → get_elem? seats there ≡ some seat → Contains seat.own place → place < length history
  own_is_made first history holders slots seats there place seat kept at made =
      let some_times = times_of_place seat.own made.0 place made.1 made.2 in
      let all = one-le-total (λ (s : Held S I N). times place s.own) seats there seat at in
      dite (dec_lt place (length history)) (λ below. below) (λ above. absurd (omega (arith, kept.once place, once_below-le (length history) place (omega arith))))
