-- The path of a key in a set of entries: it goes down to the first depth at which at most one entry
-- agrees with the key in all bits so far.
use Rattle.std.specs.Prelude.{ℕ, zero, suc, ◌-◌, List, [], ◌∷◌, ◌++◌}
use Rattle.std.specs.FinMap.{entries}
use Rattle.hash_tree.specs.Entries.{Entries, bit, half}
use Rattle.hash_tree.specs.Root.{by_count, digest_below}
use Rattle.hash_tree.specs.declared.bottom.Bottom.{Bottom}
use Rattle.hash_tree.specs.declared.bottom.Bottom.TheVariants.{Empty, Other}

-- with this many bits left, the entries that agree with the key in the next bit too
abbrev pub same_half : ℕ → List ℕ → Entries → Entries
same_half left key m = half (255 - left) (bit key (255 - left)) m

-- and those that do not
abbrev pub other_half : ℕ → List ℕ → Entries → Entries
other_half left key m = half (255 - left) (1 - bit key (255 - left)) m

-- the digests of the other halves, the deepest first, where this many bits are left
unfoldable pub steps_below : ℕ → List ℕ → Entries → List (List ℕ)
steps_below zero key m = []
steps_below (suc left) key m =
    by_count (entries m) [] (λ _. [])
    (steps_below left key (same_half left key m) ++ digest_below left (other_half left key m) ∷ [])

-- the entry that is left where the path ends, or none
unfoldable pub bottom_below : ℕ → List ℕ → Entries → Bottom
bottom_below zero key m = by_count (entries m) Empty (λ e. Other e.0 e.1) Empty
bottom_below (suc left) key m =
    by_count (entries m) Empty (λ e. Other e.0 e.1) (bottom_below left key (same_half left key m))

-- the steps of the key's path
abbrev pub steps_of : List ℕ → Entries → List (List ℕ)
steps_of key m = steps_below 256 key m

-- what lies at its foot
abbrev pub bottom_of : List ℕ → Entries → Bottom
bottom_of key m = bottom_below 256 key m
