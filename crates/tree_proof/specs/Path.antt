-- What the path of a key in a set of entries shows.
use Rattle.std.specs.Prelude.{ℕ, List, Option, Some, None}
use Rattle.std.specs.FinMap.{get}
use Rattle.hash_tree.specs.Entries.{Entries}
use Rattle.hash_tree.specs.Path.{bottom_of}
use Rattle.hash_tree.specs.declared.bottom.Bottom.{Bottom}
use Rattle.tree_proof.specs.declared.path.Found.{Found}
use Rattle.tree_proof.specs.declared.path.Found.TheVariants.{Present, Absent}

-- what the path shows of a key, by its value or none
abbrev pub shown : Option (List ℕ) → Bottom → Found
shown (Some value) bottom = Present value
shown None bottom = Absent bottom

-- what the key's path shows in a set of entries
abbrev pub found_of : List ℕ → Entries → Found
found_of key m = shown (get m key) (bottom_of key m)
