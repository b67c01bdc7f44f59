-- An index of a list by prints.
use Rattle.std.specs.Prelude.{◌≡◌, ℕ, List, Option, position, nat_eq}

-- what the index has at each print is the first place of an item with this print
abbrev pub IsIndexOf : {T : Type 0} → (T → ℕ) → (ℕ → Option ℕ) → List T → Type 0
IsIndexOf print at items = (k : ℕ) → at k ≡ position (λ item. nat_eq k (print item)) items
