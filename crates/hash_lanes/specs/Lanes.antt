-- Four values side by side: word k of all four is one vector, with one lane for each of them.
use Rattle.std.specs.Prelude.{ℕ, List, [], ◌∷◌, ◌++◌, map, slice_index}
use Rattle.std.specs.Int.{w16, w32, to_be_bytes}
use Rattle.sha2.specs.Sha256.{digest_bytes}
use Rattle.hash_lanes.specs.declared.row.Row.{Row}

-- the vectors of rows
abbrev pub vectors_of : List Row → List (List ℕ)
vectors_of rows = map (λ row. row.lanes) rows

-- the words in lane i, one of each vector
abbrev pub lane_of : List (List ℕ) → ℕ → List ℕ
lane_of vectors i = map (λ vector. slice_index vector i) vectors

-- the 32 bytes in lane i of eight vectors, the high byte of each word first
abbrev pub value_in : List (List ℕ) → ℕ → List ℕ
value_in vectors i = digest_bytes (lane_of vectors i) 8

-- the values in the four lanes
unfoldable pub values_in : List (List ℕ) → List (List ℕ)
values_in vectors = value_in vectors 0 ∷ value_in vectors 1 ∷ value_in vectors 2 ∷ value_in vectors 3 ∷ []

-- I || u32 leaf || u16 chain || u8 step || value: the 55 bytes that a step of a chain hashes (RFC 8554, section 4.3)
abbrev pub step_text : List ℕ → ℕ → ℕ → ℕ → List ℕ → List ℕ
step_text id leaf chain step value = id ++ (to_be_bytes w32 leaf ++ (to_be_bytes w16 chain ++ step ∷ value))
