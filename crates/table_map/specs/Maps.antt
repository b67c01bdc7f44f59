-- A map of tables: the root of the tree over their directories, and how many first bits of a name's key are its table.
use Rattle.std.specs.Prelude.{◌≡◌, ℕ, ◌*◌, ◌<◌, ◌≤◌, ◌^◌, ◌==◌, ◌&&◌, Bool, List, ◌∷◌, length}
use Rattle.hash_tree.specs.Strings.{entry_string}
use Rattle.tree_proof.specs.Fold.{digests_in}
use Rattle.tree_proof.specs.Membership.{OnBytes, is_on, path_strings}
use Rattle.party_keys.specs.Directory.{Directory}
use Rattle.table_map.specs.Digests.{directory_digest, directory_string}
use Rattle.table_map.specs.Tables.{table_key}

-- what a client ships of a map
pub record TableMap : Type 0 where
  pub bits : ℕ
  pub root : List ℕ

-- there are no more tables than 2 to this power
abbrev pub most_bits : ℕ
most_bits = 24

-- The directory is that of the table with this number: the path has a step for each bit, and shows the directory's digest under
-- the map's root, as the value of the table's key.
pub record IsPlaced (m : TableMap) (table : ℕ) (keys : Directory) (path : List ℕ) : Type 0 where
  pub steps : length path ≡ 32 * m.bits
  pub shown : OnBytes (table_key m.bits table) (directory_digest keys) path m.root

-- the same as a test
unfoldable pub is_placed : TableMap → ℕ → Directory → List ℕ → Bool
is_placed m table keys path = length path == 32 * m.bits && is_on (table_key m.bits table) (directory_digest keys) path m.root

-- the strings that are hashed to follow the path of a table from its directory to the root
abbrev pub placed_strings : ℕ → ℕ → Directory → List ℕ → List (List ℕ)
placed_strings bits table keys path =
    directory_string keys ∷ path_strings (table_key bits table) (entry_string (table_key bits table) (directory_digest keys)) (digests_in path)
