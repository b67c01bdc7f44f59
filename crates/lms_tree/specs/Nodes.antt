-- The nodes that a key keeps, node r at place r.
use Rattle.std.specs.Prelude.{◌≡◌, ℕ, ◌+◌, ◌*◌, ◌^◌, ◌<◌, ◌≤◌, List, [], slice_index_or}
use Rattle.lms_tree.specs.KeyParts.{KeyParts}
use Rattle.lms_tree.specs.LmsKind.{height_of}
use Rattle.lms_tree.specs.Key.{node_at}

-- node r is at this depth, and its children lie this many levels above the leaves
abbrev pub IsAt : KeyParts → ℕ → ℕ → ℕ → Type 0
IsAt key depth height r = (depth + height ≡ height_of key.lms) × (2 ^ depth ≤ r) × (r < 2 * 2 ^ depth)

-- the nodes from number n on are those of the key
abbrev pub HoldsFrom : KeyParts → ℕ → List (List ℕ) → Type 0
HoldsFrom key n nodes =
    (depth height r : ℕ) → IsAt key depth height r → n ≤ r → slice_index_or nodes r [] ≡ node_at key height r
