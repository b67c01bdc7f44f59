-- Strings that do not collide under SHA-256: the premise of each law that reads a digest backwards.
use Rattle.std.specs.Prelude.{◌≡◌, ℕ, Bool, not, ◌||◌, ◌⊎◌, List, [], ◌∷◌}
use Rattle.std.specs.Str.{bytes_eq}
use Rattle.std.specs.List.{list_all}
use Rattle.sha2.specs.Sha256.{sha256}

-- two strings do not collide: their digests differ, or they are one string
abbrev pub are_apart : List ℕ → List ℕ → Bool
are_apart x y = not (bytes_eq (sha256 x) (sha256 y)) || bytes_eq x y

-- no two strings of the list collide
abbrev pub none_collide : List (List ℕ) → Bool
none_collide strings = list_all (λ x. list_all (λ y. are_apart x y) strings) strings

-- the string stands in the list
abbrev pub IsIn : List (List ℕ) → List ℕ → Type 0
IsIn [] x = ⊥
IsIn (y ∷ ys) x = (x ≡ y) ⊎ IsIn ys x

-- of two strings of the list with one digest, both are one
abbrev pub Apart : List (List ℕ) → Type 0
Apart strings = (x y : List ℕ) → IsIn strings x → IsIn strings y → sha256 x ≡ sha256 y → x ≡ y
