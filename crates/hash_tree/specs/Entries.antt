-- The entries that the integrity tree is over: a finite map from keys to values, both of 32 bytes.
use Rattle.std.specs.Prelude.{◌≡◌, ℕ, ◌-◌, ◌/◌, ◌%◌, ◌<◌, ◌==◌, List, slice_index, Some, IsTrue, filter}
use Rattle.std.specs.declared.cmp.Ordering.{Ordering}
use Rattle.std.specs.Ordering.{nat_cmp}
use Rattle.std.specs.Int.{bit_at}
use Rattle.std.specs.Cmp.Lexicographic.{slice_cmp}
use Rattle.ar_base.specs.Bytes.{IsDigest}
use Rattle.std.specs.FinMap.{FinMap, get, contains_key, retain_keys, from_entries, is_sorted}

-- a key with its value
abbrev pub Entry : Type 0
Entry = List ℕ × List ℕ

-- the order of keys, by their bytes from the first on
abbrev pub key_cmp : List ℕ → List ℕ → Ordering
key_cmp = slice_cmp nat_cmp

-- a finite map from keys to values
abbrev pub Entries : Type 0
Entries = FinMap key_cmp (List ℕ)

-- the map that a list of entries makes
abbrev pub entries_of : List Entry → Entries
entries_of = from_entries

-- the keys of a list rise strictly
abbrev pub HasAscendingKeys : List Entry → Type 0
HasAscendingKeys entries = IsTrue (is_sorted key_cmp entries)

-- each key and each value is of 32 bytes
abbrev pub HoldsDigests : Entries → Type 0
HoldsDigests entries = (key value : List ℕ) → get entries key ≡ Some value → IsDigest key × IsDigest value

-- a key's bit at a depth, where bit 0 is the highest bit of byte 0
abbrev pub bit : List ℕ → ℕ → ℕ
bit key depth = bit_at (slice_index key (depth / 8)) (7 - depth % 8)

-- the two keys agree in their first bits, this many
abbrev pub Agree : ℕ → List ℕ → List ℕ → Type 0
Agree depth key other = (t : ℕ) → t < depth → bit key t ≡ bit other t

-- the entries whose key has this bit (0 or 1) at the depth
abbrev pub half : ℕ → ℕ → Entries → Entries
half depth side entries = retain_keys entries (λ key. bit key depth == side)

-- of a list, the entries whose key has this bit at the depth
abbrev pub of_side : ℕ → ℕ → List Entry → List Entry
of_side depth side = filter (λ e. bit e.0 depth == side)

-- all keys of a map agree in their first bits, this many
abbrev pub AgreeAmong : ℕ → Entries → Type 0
AgreeAmong depth entries = (key other : List ℕ) → IsTrue (contains_key entries key) → IsTrue (contains_key entries other) → Agree depth key other
