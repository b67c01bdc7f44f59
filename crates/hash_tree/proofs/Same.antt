-- One map has one kept tree.
use Rattle.std.proofs.Common.{◌≡◌, ◌∙◌, sym, ap, refl, ℕ, ◌+◌, ◌≤◌, [], ◌∷◌, length, arith}
use Rattle.std.specs.FinMap.{entries}
use Rattle.hash_tree.specs.Entries.{Entry, Entries, half}
use Rattle.hash_tree.specs.Kept.{entry_of, IsStored, Keeps, AreSame}
use Rattle.hash_tree.specs.declared.node.Stored.{Stored}
use Rattle.hash_tree.specs.declared.node.Node.{Node}
use Rattle.hash_tree.specs.declared.node.Node.TheVariants.{Empty, Leaf, Branch'}

-- an entry is stored in one way
stored : (s t : Stored) → entry_of s ∷ [] ≡ entry_of t ∷ [] → IsStored s → IsStored t → s ≡ t
stored s t same is other =
    let both : entry_of s ≡ entry_of t = cc in
    let key : s.key ≡ t.key = ap (λ (e : Entry). e.0) both in
    let value : s.value ≡ t.value = ap (λ (e : Entry). e.1) both in
    let first = is.hashed in
    let second = other.hashed in
    let digest : s.digest ≡ t.digest = cc in
    rw (key, value, digest) refl

-- a map with several entries is not empty, and has not one alone
not_none : (m : Entries) → entries m ≡ [] → 2 ≤ length (entries m) → ⊥
not_none m none several = let l : length (entries m) ≡ 0 = ap length none in absurd (omega arith)

not_one : (m : Entries) (e : Entry) → entries m ≡ e ∷ [] → 2 ≤ length (entries m) → ⊥
not_one m e one several = let l : length (entries m) ≡ 1 = ap length one in absurd (omega arith)

pub same : (depth : ℕ) (m : Entries) (one other : Node) → Keeps depth one m → Keeps depth other m → AreSame one other
unfolding Keeps
same depth m Empty Empty k l = tt
same depth m Empty (Leaf t) k l = absurd (let first = l.0 in cc)
same depth m Empty (Branch' q e left' right') k l = not_none m k l.1.1
same depth m (Leaf s) Empty k l = absurd (let first = k.0 in cc)
same depth m (Leaf s) (Leaf t) k l = stored s t (sym k.0 ∙ l.0) k.1 l.1
same depth m (Leaf s) (Branch' q e left' right') k l = not_one m (entry_of s) k.0 l.1.1
same depth m (Branch' p d left right) Empty k l = not_none m l k.1.1
same depth m (Branch' p d left right) (Leaf t) k l = not_one m (entry_of t) l.0 k.1.1
same depth m (Branch' p d left right) (Branch' q e left' right') k l = (
  k.0 ∙ sym l.0,
  same (depth + 1) (half depth 0 m) left left' k.1.2 l.1.2,
  same (depth + 1) (half depth 1 m) right right' k.1.3 l.1.3,
)
