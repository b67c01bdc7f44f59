-- What the kept tree is: the definition of the digest, with the digest of each half that has several
-- entries kept beside it.
use Rattle.std.specs.Prelude.{◌≡◌, ◌≢◌, ℕ, ◌+◌, ◌<◌, ◌≤◌, List, [], ◌∷◌, ◌++◌, length, IsTrue, Option, Some, None}
use Rattle.std.specs.FinMap.{entries, contains_key}
use Rattle.ar_base.specs.Bytes.{IsDigest}
use Rattle.hash_tree.specs.Entries.{Entry, Entries, entries_of, half, Agree}
use Rattle.hash_tree.specs.Strings.{empty_digest, entry_digest}
use Rattle.hash_tree.specs.Root.{subtree_digest}
use Rattle.hash_tree.specs.declared.node.Stored.{Stored}
use Rattle.hash_tree.specs.declared.node.Branch.{Branch}
use Rattle.hash_tree.specs.declared.node.Node.{Node}
use Rattle.hash_tree.specs.declared.node.Node.TheVariants.{Empty, Leaf, Branch'}

-- the entry that is stored with its digest
abbrev pub entry_of : Stored → Entry
entry_of s = (s.key, s.value)

-- what is stored is an entry of 32 bytes each, with its digest
pub record IsStored (s : Stored) : Type 0 where
  pub key : IsDigest s.key
  pub value : IsDigest s.value
  pub hashed : s.digest ≡ entry_digest s.key s.value

-- the entries in a tree, from left to right
abbrev pub listing : Node → List Entry
listing Empty = []
listing (Leaf s) = entry_of s ∷ []
listing (Branch' p digest left right) = listing left ++ listing right

-- the map that they make
abbrev pub map_of : Node → Entries
map_of node = entries_of (listing node)

-- the digest that is kept at the top of a tree
abbrev pub digest_of : Node → List ℕ
digest_of Empty = empty_digest
digest_of (Leaf s) = s.digest
digest_of (Branch' p digest left right) = digest

-- a tree keeps a map at a depth: none, one entry with its digest, or for several their digest and a
-- tree for each half
unfoldable pub Keeps : ℕ → Node → Entries → Type 0
Keeps depth Empty m = entries m ≡ []
Keeps depth (Leaf s) m = (entries m ≡ entry_of s ∷ []) × IsStored s
Keeps depth (Branch' p digest left right) m =
    (digest ≡ subtree_digest depth m)
    × ((depth < 256) × (2 ≤ length (entries m)) × Keeps (depth + 1) left (half depth 0 m) × Keeps (depth + 1) right (half depth 1 m))

-- a map has several entries, and these are the trees of its halves
abbrev pub HasHalves : ℕ → Node → Node → Entries → Type 0
HasHalves depth left right m =
    (depth < 256) × (2 ≤ length (entries m)) × Keeps (depth + 1) left (half depth 0 m) × Keeps (depth + 1) right (half depth 1 m)

-- the map that the entries of two trees make
abbrev pub map_both : Node → Node → Entries
map_both left right = entries_of (listing left ++ listing right)

-- two trees are those of the halves of their own entries
abbrev pub AreHalves : ℕ → Node → Node → Type 0
AreHalves depth left right = HasHalves depth left right (map_both left right)

-- a tree keeps the map of its own entries
abbrev pub IsKept : ℕ → Node → Type 0
IsKept depth node = Keeps depth node (map_of node)

-- each key of the map agrees with this key in the first bits, this many
abbrev pub AgreesWith : ℕ → List ℕ → Entries → Type 0
AgreesWith depth key m = (other : List ℕ) → IsTrue (contains_key m other) → Agree depth key other

-- the map of two entries
abbrev pub two_of : Stored → Stored → Entries
two_of one other = entries_of (entry_of one ∷ entry_of other ∷ [])

-- the keys of two entries are two, and agree in the first bits, this many
pub record AreTwo (depth : ℕ) (one other : Stored) : Type 0 where
  pub one_stored : IsStored one
  pub other_stored : IsStored other
  pub differ : one.key ≢ other.key
  pub agree : Agree depth one.key other.key
  pub in_key : depth ≤ 256

-- the one entry in two trees, if there is only one
abbrev pub lone_of : Node → Node → Option Stored
lone_of Empty (Leaf s) = Some s
lone_of (Leaf s) Empty = Some s
lone_of left right = None

-- what is left of a map: one entry alone, or several in a branch
abbrev pub IsLeft : ℕ → Option Stored → Branch → Entries → Type 0
IsLeft depth (Some s) branch m = (entries m ≡ entry_of s ∷ []) × IsStored s
IsLeft depth None branch m = (branch.digest ≡ subtree_digest depth m) × HasHalves depth branch.left branch.right m

-- two trees are of one shape, with the same entries and the same digests
abbrev pub AreSame : Node → Node → Type 0
AreSame Empty Empty = Unit {0}
AreSame (Leaf s) (Leaf t) = s ≡ t
AreSame (Branch' p digest left right) (Branch' q digest' left' right') = (digest ≡ digest') × AreSame left left' × AreSame right right'
AreSame Empty (Leaf t) = ⊥
AreSame Empty (Branch' q digest' left' right') = ⊥
AreSame (Leaf s) Empty = ⊥
AreSame (Leaf s) (Branch' q digest' left' right') = ⊥
AreSame (Branch' p digest left right) Empty = ⊥
AreSame (Branch' p digest left right) (Leaf t) = ⊥
