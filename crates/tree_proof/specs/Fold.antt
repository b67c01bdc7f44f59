-- A path in the integrity tree: siblings, the deepest first. With k steps, the first belongs to depth
-- k - 1, and the last to depth 0.
use Rattle.std.specs.Prelude.{ℕ, ◌/◌, ◌==◌, if◌then◌else◌, List, [], ◌∷◌, length}
use Rattle.std.specs.Simd.{first_chunks}
use Rattle.sha2.specs.Sha256.{sha256}
use Rattle.hash_tree.specs.Strings.{node_string}
use Rattle.hash_tree.specs.Entries.{bit}

-- the digests that lie in bytes one after another, 32 bytes each
abbrev pub digests_in : List ℕ → List (List ℕ)
digests_in bytes = first_chunks 32 (length bytes / 32) bytes

-- the string of the node above a value and its sibling. The key's bit at the node's depth says on
-- which side the value stands: on the left where it is 0
abbrev pub joined : List ℕ → ℕ → List ℕ → List ℕ → List ℕ
joined key depth value step = if bit key depth == 0 then node_string value step else node_string step value

-- the digest that a value leads up to, over the steps
abbrev pub path_value : List ℕ → List ℕ → List (List ℕ) → List ℕ
path_value key value [] = value
path_value key value (step ∷ above) = path_value key (sha256 (joined key (length above) value step)) above

-- the strings that are hashed on the way
abbrev pub strings_above : List ℕ → List ℕ → List (List ℕ) → List (List ℕ)
strings_above key value [] = []
strings_above key value (step ∷ above) =
    joined key (length above) value step ∷ strings_above key (sha256 (joined key (length above) value step)) above
