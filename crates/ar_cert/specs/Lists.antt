-- Numbers as they stand in bytes.
use Rattle.std.specs.Prelude.{◌≡◌, ℕ, List, [], ◌∷◌}
use Rattle.std.specs.Int.{w16, from_be_bytes}
use Rattle.ar_bytes.specs.Ascending.{numbers_text}

-- the numbers that stand in bytes, two bytes for each
abbrev pub numbers_in : List ℕ → List ℕ
numbers_in [] = []
numbers_in (high ∷ []) = []
numbers_in (high ∷ low ∷ bytes) = from_be_bytes w16 (high ∷ low ∷ []) ∷ numbers_in bytes

-- bytes that are the text of the numbers that stand in them
abbrev pub SpellsNumbers : List ℕ → Type 0
SpellsNumbers bytes = numbers_text (numbers_in bytes) ≡ bytes
