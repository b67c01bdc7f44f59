-- The print of a text.
use Rattle.std.specs.Prelude.{ℕ, List, ◌++◌, take}
use Rattle.std.specs.Int.{w128, from_be_bytes}
use Rattle.sha2.specs.Sha256.{sha256}

-- the first 16 bytes of H(head || text), as a number
unfoldable pub print_of : List ℕ → List ℕ → ℕ
print_of head text = from_be_bytes w128 (take 16 (sha256 (head ++ text)))
