-- The digest of a finite set of entries, by halves at a bit: the left half has the keys whose bit is
-- 0. No tree is kept in it, and no order of the entries.
use Rattle.std.specs.Prelude.{ℕ, zero, suc, ◌-◌, List, [], ◌∷◌, ◌++◌}
use Rattle.std.specs.FinMap.{entries}
use Rattle.sha2.specs.Sha256.{sha256}
use Rattle.hash_tree.specs.Strings.{empty_string, entry_string, node_string}
use Rattle.hash_tree.specs.Entries.{Entry, Entries, half}

-- what stands for none, for one entry, and for more
abbrev pub by_count : {A : Type 0} → List Entry → A → (Entry → A) → A → A
by_count [] none one more = none
by_count (e ∷ []) none one more = one e
by_count (e ∷ f ∷ es) none one more = more

-- the string that is hashed for a set of entries where this many of the 256 bits are left. At the end
-- no two entries are left, since they would have one key
unfoldable pub string_below : ℕ → Entries → List ℕ
string_below zero m = by_count (entries m) empty_string (λ e. entry_string e.0 e.1) []
string_below (suc left) m =
    by_count (entries m) empty_string (λ e. entry_string e.0 e.1)
    (node_string (sha256 (string_below left (half (255 - left) 0 m))) (sha256 (string_below left (half (255 - left) 1 m))))

-- the digest of a set of entries where this many bits are left
abbrev pub digest_below : ℕ → Entries → List ℕ
digest_below left m = sha256 (string_below left m)

-- the digest of a set of entries at a depth, the number of bits that are decided
abbrev pub subtree_digest : ℕ → Entries → List ℕ
subtree_digest depth m = digest_below (256 - depth) m

-- the root of the integrity tree over the entries
abbrev pub root : Entries → List ℕ
root m = subtree_digest 0 m

-- all strings that are hashed for a set of entries where this many bits are left
unfoldable pub strings_below : ℕ → Entries → List (List ℕ)
strings_below zero m = string_below zero m ∷ []
strings_below (suc left) m =
    string_below (suc left) m ∷ by_count (entries m) [] (λ _. [])
    (strings_below left (half (255 - left) 0 m) ++ strings_below left (half (255 - left) 1 m))

-- all strings that are hashed for the root
abbrev pub strings_of : Entries → List (List ℕ)
strings_of m = strings_below 256 m
