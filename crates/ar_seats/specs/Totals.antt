-- What the views of all seats have together.
use Rattle.std.specs.Prelude.{ℕ, ◌+◌, List, [], ◌∷◌}

-- the numbers of all views, added up
abbrev pub total : {V : Type 0} → (V → ℕ) → List V → ℕ
total number_of [] = 0
total number_of (view ∷ views) = number_of view + total number_of views
