-- Numbers that are handed out, each once.
use Rattle.std.specs.Prelude.{◌≡◌, ℕ, ◌+◌, ◌<◌, ◌==◌, nat_lt, List, [], ◌∷◌}
use Rattle.ar_base.specs.Adding.{placed}
use Rattle.ar_base.specs.Counting.{one_if}

-- how often a number stands in a list
abbrev pub times : ℕ → List ℕ → ℕ
times number [] = 0
times number (first ∷ numbers) = one_if (number == first) + times number numbers

-- 1 for each number below the limit, 0 for the others
abbrev pub once_below : ℕ → ℕ → ℕ
once_below limit number = one_if (nat_lt number limit)

-- the list has each number below the limit once, and no other
abbrev pub HasEachBelow : ℕ → List ℕ → Type 0
HasEachBelow limit numbers = (number : ℕ) → times number numbers ≡ once_below limit number

-- a number is below each of a list
abbrev pub IsBelowEach : ℕ → List ℕ → Type 0
IsBelowEach number [] = Unit {0}
IsBelowEach number (first ∷ numbers) = (number < first) × IsBelowEach number numbers

-- each number is below those behind it
abbrev pub IsRising : List ℕ → Type 0
IsRising [] = Unit {0}
IsRising (first ∷ numbers) = IsBelowEach first numbers × IsRising numbers

-- two rising lists in one
abbrev pub merged : List ℕ → List ℕ → List ℕ
merged numbers [] = numbers
merged numbers (other ∷ others) = merged (placed (λ n. n) other numbers) others
