-- Orders in which the things of several lists come one after another.
use Rattle.std.specs.Prelude.{◌≡◌, ◌≤◌, ◌⊎◌, ℕ, List, [], ◌∷◌}
use Rattle.std.specs.List.{AllByRecursion}
use Rattle.ar_seats.specs.Numbers.{times}
use Rattle.ar_seats.specs.Totals.{total}

-- a list is the other one with some of its items left out
abbrev pub IsSubsequence : {A : Type 0} → List A → List A → Type 0
IsSubsequence xs [] = xs ≡ []
IsSubsequence {A = A} xs (y ∷ ys) = IsSubsequence xs ys ⊎ ((rest : List A) × (xs ≡ y ∷ rest) × IsSubsequence rest ys)

-- An order in which the numbers of several lists come: each list is a subsequence of it, each number of the lists is in it once,
-- and nothing else is.
pub record IsInterleaving (order : List ℕ) (lists : List (List ℕ)) : Type 0 where
  pub each : AllByRecursion (λ l. IsSubsequence l order) lists
  pub same : (x : ℕ) → times x order ≡ total (times x) lists
  pub once : (x : ℕ) → times x order ≤ 1
