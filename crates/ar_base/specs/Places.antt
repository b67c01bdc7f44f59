-- Texts in a list: where a text stands, and that none stands twice.
use Rattle.std.specs.Prelude.{◌≢◌, ℕ, List, Option, AllPairs, position, bytes_eq}

-- the place of a text in a list, from 0, where it stands there
abbrev pub place_of : List (List ℕ) → List ℕ → Option ℕ
place_of texts text = position (bytes_eq text) texts

-- no text stands at two places
abbrev pub HasNoneTwice : List (List ℕ) → Type 0
HasNoneTwice texts = AllPairs (λ text later. text ≢ later) texts
