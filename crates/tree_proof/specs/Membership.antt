-- When steps show that a key has a value under a root, and when they show that it has none.
use Rattle.std.specs.Prelude.{◌≡◌, ◌≢◌, ℕ, zero, suc, ◌≤◌, ◌%◌, ◌==◌, nat_le, Bool, true, not, ◌&&◌, List, ◌∷◌, length, ⊤}
use Rattle.std.specs.Str.{bytes_eq}
use Rattle.sha2.specs.Sha256.{sha256}
use Rattle.hash_tree.specs.Strings.{empty_string, entry_string}
use Rattle.ar_base.specs.Bytes.{IsDigest}
use Rattle.hash_tree.specs.Entries.{bit, Agree}
use Rattle.hash_tree.specs.declared.bottom.Bottom.{Bottom}
use Rattle.hash_tree.specs.declared.bottom.Bottom.TheVariants.{Empty, Other}
use Rattle.tree_proof.specs.Fold.{digests_in, path_value, strings_above}

-- the string that stands at the foot of a path that shows absence
abbrev pub bottom_string : Bottom → List ℕ
bottom_string Empty = empty_string
bottom_string (Other other value) = entry_string other value

-- the bottom speaks of this key's absence: it is empty, or an entry of another key that agrees with
-- this one in as many first bits as there are steps
abbrev pub SpeaksOf : Bottom → List ℕ → ℕ → Type 0
SpeaksOf Empty key count = ⊤
SpeaksOf (Other other value) key count = (other ≢ key) × Agree count other key

-- the steps lead from this string's digest to the root
abbrev pub LeadsTo : List ℕ → List ℕ → List (List ℕ) → List ℕ → Type 0
LeadsTo key foot steps root = (length steps ≤ 256) × (path_value key (sha256 foot) steps ≡ root)

-- the steps show that the key has the value
abbrev pub On : List ℕ → List ℕ → List (List ℕ) → List ℕ → Type 0
On key value steps root = LeadsTo key (entry_string key value) steps root

-- the steps show that the key has no value
abbrev pub Off : List ℕ → Bottom → List (List ℕ) → List ℕ → Type 0
Off key bottom steps root = LeadsTo key (bottom_string bottom) steps root × SpeaksOf bottom key (length steps)

-- bytes are steps of 32 bytes, one after another, that show that the key has the value
abbrev pub OnBytes : List ℕ → List ℕ → List ℕ → List ℕ → Type 0
OnBytes key value bytes root = (length bytes % 32 ≡ 0) × On key value (digests_in bytes) root

-- or that it has none
abbrev pub OffBytes : List ℕ → Bottom → List ℕ → List ℕ → Type 0
OffBytes key bottom bytes root = (length bytes % 32 ≡ 0) × Off key bottom (digests_in bytes) root

-- `LeadsTo` of bytes, as a test
abbrev pub leads_to : List ℕ → List ℕ → List ℕ → List ℕ → Bool
leads_to key foot bytes root =
    length bytes % 32 == 0
    && (nat_le (length (digests_in bytes)) 256 && bytes_eq (path_value key (sha256 foot) (digests_in bytes)) root)

-- `OnBytes` as a test
unfoldable pub is_on : List ℕ → List ℕ → List ℕ → List ℕ → Bool
is_on key value bytes root = leads_to key (entry_string key value) bytes root

-- `Agree` as a test
abbrev pub agrees : ℕ → List ℕ → List ℕ → Bool
agrees zero key other = true
agrees (suc depth) key other = bit key depth == bit other depth && agrees depth key other

-- `SpeaksOf` as a test
abbrev pub speaks_of : Bottom → List ℕ → ℕ → Bool
speaks_of Empty key count = true
speaks_of (Other other value) key count = not (bytes_eq other key) && agrees count other key

-- `OffBytes` as a test
unfoldable pub is_off : List ℕ → Bottom → List ℕ → List ℕ → Bool
is_off key bottom bytes root =
    leads_to key (bottom_string bottom) bytes root && speaks_of bottom key (length (digests_in bytes))

-- all strings that are hashed to follow a path from its foot
abbrev pub path_strings : List ℕ → List ℕ → List (List ℕ) → List (List ℕ)
path_strings key foot steps = foot ∷ strings_above key (sha256 foot) steps

-- a bottom's key is of 32 bytes
abbrev pub HasDigestKey : Bottom → Type 0
HasDigestKey Empty = ⊤
HasDigestKey (Other other value) = IsDigest other
