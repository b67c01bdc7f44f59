-- What a kept tree tells of its map, and how trees of the halves make one.
use Rattle.std.proofs.Common.{◌≡◌, ◌≢◌, ℕ, zero, suc, ◌⊎◌, inl, inr, ⊎_elim, ◌+◌, ◌-◌, ◌/◌, ◌%◌, ◌<◌, ◌≤◌, List, [], ◌∷◌, ◌++◌, length, length-append, refl, sym, ap, ◌∙◌, subst, arith, Bool, true, false, cond, eqb, Option, Some, None}
use Rattle.std.specs.Ordering.{eq_by_cmp}
use Rattle.std.specs.FinMap.{get, entries, find, same_map, get-entries, get-from_entries, get-empty}
use Rattle.std.proofs.lemmas.Nat.Bits.{bit_at-lt}
use Rattle.sha2.specs.Sha256.{sha256}
use Rattle.hash_tree.specs.Strings.{node_digest}
use Rattle.ar_base.specs.Bytes.{IsDigest}
use Rattle.hash_tree.specs.Entries.{Entry, Entries, key_cmp, bit, half, HoldsDigests}
use Rattle.hash_tree.specs.Root.{by_count, subtree_digest, digest_below}
use Rattle.hash_tree.specs.Path.{same_half, other_half, steps_below, bottom_below}
use Rattle.hash_tree.specs.Kept.{listing, map_of, map_both, digest_of, Keeps, IsKept, HasHalves, AreHalves, IsStored, entry_of}
use Rattle.hash_tree.specs.declared.bottom.Bottom.TheVariants.{Other}
use Rattle.hash_tree.specs.declared.node.Node.{Node}
use Rattle.hash_tree.specs.declared.node.Node.TheVariants.{Empty, Leaf, Branch'}
use Rattle.hash_tree.proofs.Maps.{total, exact, get-half, one_at, entries-entries_of}
use Rattle.hash_tree.proofs.Few.{get-none, get-one_inverse}
use Rattle.hash_tree.proofs.ByCount.{string-none, string-one, string-more}
use Rattle.hash_tree.proofs.Paths.{steps-few, steps-more, bottom-one, bottom-more}
use Rattle.hash_tree.proofs.Changed.{get-here}

abbrev or_else : Option (List ℕ) → Option (List ℕ) → Option (List ℕ)
or_else None o = o
or_else (Some v) o = Some v

find-joined : (xs ys : List Entry) (q : List ℕ) → find key_cmp q (xs ++ ys) ≡ or_else (find key_cmp q xs) (find key_cmp q ys)
find-joined [] ys q = refl
find-joined (x ∷ xs) ys q =
    elim (eq_by_cmp key_cmp q x.0) as (λ b. cond b (Some x.1) (find key_cmp q (xs ++ ys)) ≡ or_else (cond b (Some x.1) (find key_cmp q xs)) (find key_cmp q ys)) [
      | true ↦ refl
      | false ↦ find-joined xs ys q
    ]

one_side : (b : Bool) (o : Option (List ℕ)) → or_else (cond b o None) (cond (cond b false true) o None) ≡ o
one_side true None = refl
one_side true (Some v) = refl
one_side false o = refl

joined_halves : (depth : ℕ) (m : Entries) (q : List ℕ) → or_else (get (half depth 0 m) q) (get (half depth 1 m) q) ≡ get m q
joined_halves depth m q =
    let right = get-half depth 1 m q ∙ ap (λ b. cond b (get m q) None) (one_at q depth _ refl) in
    ap (λ o. or_else o (get (half depth 1 m) q)) (get-half depth 0 m q)
    ∙ ap (or_else (cond (eqb (bit q depth) 0) (get m q) None)) right
    ∙ one_side _ _

listed : (node : Node) (depth : ℕ) (m : Entries) → Keeps depth node m → (q : List ℕ) → find key_cmp q (listing node) ≡ get m q
unfolding Keeps
listed Empty depth m k q = sym (get-none m q k)
listed (Leaf l) depth m k q = sym (get-entries m q ∙ ap (find key_cmp q) k.0)
listed (Branch' p digest left right) depth m k q =
    find-joined (listing left) (listing right) q
    ∙ ap (λ o. or_else o (find key_cmp q (listing right))) (listed left (depth + 1) (half depth 0 m) k.1.2 q)
    ∙ ap (or_else (get (half depth 0 m) q)) (listed right (depth + 1) (half depth 1 m) k.1.3 q)
    ∙ joined_halves depth m q

-- a tree keeps no map but that of its entries
pub keeps-map : (node : Node) (depth : ℕ) (m : Entries) → Keeps depth node m → map_of node ≡ m
keeps-map node depth m k = same_map total exact _ _ (λ q. get-from_entries total (listing node) q ∙ listed node depth m k q)

pub both-map : (left right : Node) (depth : ℕ) (m : Entries) → Keeps (depth + 1) left (half depth 0 m) → Keeps (depth + 1) right (half depth 1 m) → map_both left right ≡ m
both-map left right depth m kl kr = same_map total exact _ _ (λ q.
    get-from_entries total (listing left ++ listing right) q
    ∙ find-joined (listing left) (listing right) q
    ∙ ap (λ o. or_else o (find key_cmp q (listing right))) (listed left (depth + 1) (half depth 0 m) kl q)
    ∙ ap (or_else (get (half depth 0 m) q)) (listed right (depth + 1) (half depth 1 m) kr q)
    ∙ joined_halves depth m q)

pub keeps-kept : (node : Node) (depth : ℕ) (m : Entries) → Keeps depth node m → IsKept depth node
keeps-kept node depth m k = subst (Keeps depth node) (sym (keeps-map node depth m k)) k

-- the digest that is kept is the map's
pub digest-kept : (node : Node) (depth : ℕ) (m : Entries) → Keeps depth node m → digest_of node ≡ subtree_digest depth m
unfolding Keeps
digest-kept Empty depth m k = sym (ap sha256 (string-none (256 - depth) m k))
digest-kept (Leaf l) depth m k = k.1.hashed ∙ sym (ap sha256 (string-one (256 - depth) m (l.key, l.value) k.0))
digest-kept (Branch' p digest left right) depth m k = k.0

digest-halves : (depth : ℕ) (m : Entries) → depth < 256 → 2 ≤ length (entries m)
    → subtree_digest depth m ≡ node_digest (subtree_digest (depth + 1) (half depth 0 m)) (subtree_digest (depth + 1) (half depth 1 m))
digest-halves depth m below many =
    let left : 256 - depth ≡ suc (256 - (depth + 1)) = omega arith in
    ap (λ n. sha256 (string_at n)) left ∙ ap sha256 (string-more (256 - (depth + 1)) depth m (omega arith) many)
  where
    string_at : ℕ → List ℕ
    string_at n = Rattle.hash_tree.specs.Root.string_below n m

-- trees of the halves and their digest make a tree
pub halves-kept : (p : _) (digest : List ℕ) (left right : Node) (depth : ℕ) (m : Entries) → digest ≡ subtree_digest depth m → HasHalves depth left right m
    → Keeps depth (Branch' p digest left right) m
unfolding Keeps
halves-kept p digest left right depth m is halves = (is, halves)

pub halves-kept_at : (p : _) (digest : List ℕ) (left right : Node) (depth : ℕ) (m n : Entries) → n ≡ m → digest ≡ subtree_digest depth n → HasHalves depth left right n
    → Keeps depth (Branch' p digest left right) m
halves-kept_at p digest left right depth m n same is halves = subst (Keeps depth (Branch' p digest left right)) same (halves-kept p digest left right depth n is halves)

-- and the digest is that of theirs
pub halves-digest : (digest : List ℕ) (left right : Node) (depth : ℕ) (m : Entries) → digest ≡ node_digest (digest_of left) (digest_of right) → HasHalves depth left right m
    → digest ≡ subtree_digest depth m
halves-digest digest left right depth m is halves =
    let dl : digest_of left ≡ subtree_digest (depth + 1) (half depth 0 m) = digest-kept left (depth + 1) _ halves.2 in
    let dr : digest_of right ≡ subtree_digest (depth + 1) (half depth 1 m) = digest-kept right (depth + 1) _ halves.3 in
    is ∙ rw (dl, dr) (sym (digest-halves depth m halves.0 halves.1))

-- what a node with two halves tells
pub record Parts (depth : ℕ) (m : Entries) (left right : Node) : Type 0 where
  pub below : depth < 256
  pub many : 2 ≤ length (entries m)
  pub left_kept : IsKept (depth + 1) left
  pub right_kept : IsKept (depth + 1) right
  pub is_left : map_of left ≡ half depth 0 m
  pub is_right : map_of right ≡ half depth 1 m

pub parts_of : (left right : Node) (depth : ℕ) (m : Entries) → HasHalves depth left right m → Parts depth m left right
parts_of left right depth m h = record {
  below = h.0;
  many = h.1;
  left_kept = keeps-kept left (depth + 1) _ h.2;
  right_kept = keeps-kept right (depth + 1) _ h.3;
  is_left = keeps-map left (depth + 1) _ h.2;
  is_right = keeps-map right (depth + 1) _ h.3;
}

pub halves_of : (node : Node) (p : _) (digest : List ℕ) (left right : Node) (depth : ℕ) → node ≡ Branch' p digest left right → IsKept depth node
    → HasHalves depth left right (map_of node)
unfolding Keeps
halves_of node p digest left right depth is k = (subst (λ n. Keeps depth n (map_of node)) is k).1

pub parts : (node : Node) (p : _) (digest : List ℕ) (left right : Node) (depth : ℕ) → node ≡ Branch' p digest left right → IsKept depth node
    → Parts depth (map_of node) left right
parts node p digest left right depth is k = parts_of left right depth _ (halves_of node p digest left right depth is k)

-- the trees of the halves of a node are those of their own entries
pub are_halves : (node : Node) (p : _) (digest : List ℕ) (left right : Node) (depth : ℕ) → node ≡ Branch' p digest left right → IsKept depth node
    → AreHalves depth left right
are_halves node p digest left right depth is k = subst (HasHalves depth left right) (ap map_of is) (halves_of node p digest left right depth is k)

two_bits : (key : List ℕ) (depth : ℕ) → (bit key depth ≡ 0) ⊎ (bit key depth ≡ 1)
two_bits key depth = which (bit key depth) (bit_at-lt (Rattle.std.specs.Prelude.slice_index key (depth / 8)) (7 - depth % 8))
  where
    which : (n : ℕ) → n < 2 → (n ≡ 0) ⊎ (n ≡ 1)
    which zero l = inl refl
    which (suc zero) l = inr refl
    which (suc (suc n)) l = absurd (omega arith)

-- a bit that is not 0 is 1
pub other_bit : (key : List ℕ) (depth : ℕ) → bit key depth ≢ 0 → bit key depth ≡ 1
other_bit key depth h = omega (arith, bit_at-lt (Rattle.std.specs.Prelude.slice_index key (depth / 8)) (7 - depth % 8))

-- what a leaf tells
pub leaf_only : (node : Node) (l : _) (depth : ℕ) → node ≡ Leaf l → IsKept depth node → entries (map_of node) ≡ entry_of l ∷ []
unfolding Keeps
leaf_only node l depth is k = (subst (λ n. Keeps depth n (map_of node)) is k).0

pub empty_has_none : (node : Node) (q : List ℕ) → node ≡ Empty → get (map_of node) q ≡ None
empty_has_none node q is = ap (λ n. get (map_of n) q) is ∙ get-empty key_cmp q

pub empty_only : (node : Node) → node ≡ Empty → entries (map_of node) ≡ []
empty_only node is = ap (λ n. entries (map_of n)) is ∙ entries-entries_of [] refl

pub leaf_stored : (node : Node) (l : _) (depth : ℕ) → node ≡ Leaf l → IsKept depth node → IsStored l
unfolding Keeps
leaf_stored node l depth is k = (subst (λ n. Keeps depth n (map_of node)) is k).1

pub leaf-kept : (l : _) (depth : ℕ) (m : Entries) → entries m ≡ entry_of l ∷ [] → IsStored l → Keeps depth (Leaf l) m
unfolding Keeps
leaf-kept l depth m only stored = (only, stored)

pub empty-kept : (depth : ℕ) (m : Entries) → entries m ≡ [] → Keeps depth Empty m
unfolding Keeps
empty-kept depth m none = none

-- how many steps the path has: none where at most one entry is left
pub steps-none : (left : ℕ) (key : List ℕ) (m : Entries) → length (entries m) < 2 → length (steps_below left key m) ≡ 0
steps-none left key m few = ap length (steps-few left key m few)

pub steps-one : (left : ℕ) (key : List ℕ) (m : Entries) (e : Entry) → entries m ≡ e ∷ [] → length (steps_below left key m) ≡ 0
steps-one left key m e one = steps-none left key m (omega (arith, ap length one))

-- and one more than in the half that has the key's bit
pub steps-parted : (depth : ℕ) (key : List ℕ) (m : Entries) → depth < 256 → 2 ≤ length (entries m)
    → steps_below (256 - depth) key m ≡ steps_below (256 - (depth + 1)) key (half depth (bit key depth) m) ++ subtree_digest (depth + 1) (half depth (1 - bit key depth) m) ∷ []
steps-parted depth key m below many =
    let left : 256 - depth ≡ suc (256 - (depth + 1)) = omega arith in
    let at : 255 - (256 - (depth + 1)) ≡ depth = omega arith in
    ap (λ n. steps_below n key m) left ∙ rw at at (steps-more (256 - (depth + 1)) key m many)

pub bottom-parted : (depth : ℕ) (key : List ℕ) (m : Entries) → depth < 256 → 2 ≤ length (entries m)
    → bottom_below (256 - depth) key m ≡ bottom_below (256 - (depth + 1)) key (half depth (bit key depth) m)
bottom-parted depth key m below many =
    let left : 256 - depth ≡ suc (256 - (depth + 1)) = omega arith in
    let at : 255 - (256 - (depth + 1)) ≡ depth = omega arith in
    ap (λ n. bottom_below n key m) left ∙ rw at at (bottom-more (256 - (depth + 1)) key m many)

pub steps-deeper : (depth : ℕ) (key : List ℕ) (m : Entries) → depth < 256 → 2 ≤ length (entries m)
    → length (steps_below (256 - depth) key m) ≡ length (steps_below (256 - (depth + 1)) key (half depth (bit key depth) m)) + 1
steps-deeper depth key m below many =
    ap length (steps-parted depth key m below many) ∙ length-append (steps_below (256 - (depth + 1)) key (half depth (bit key depth) m)) _

-- the bottom where one entry is left
pub bottom-only : (left : ℕ) (key : List ℕ) (m : Entries) (e : Entry) → entries m ≡ e ∷ [] → bottom_below left key m ≡ Other e.0 e.1
bottom-only left key m e only = bottom-one left key m e (omega (arith, ap length only)) (omega (arith, ap length only)) ∙ rw only

-- the same of the fields of a branch that was made of them
pub branch-made : (p : _) (digest d : List ℕ) (left l right r : Node) (depth : ℕ) (m : Entries) → digest ≡ d → left ≡ l → right ≡ r
    → d ≡ node_digest (digest_of l) (digest_of r) → HasHalves depth l r m → Keeps depth (Branch' p digest left right) m
branch-made p digest d left l right r depth m ed el er is halves =
    halves-kept p digest left right depth m
    (ed ∙ halves-digest d l r depth m is halves)
    (halves.0, halves.1, subst (λ n. Keeps (depth + 1) n (half depth 0 m)) (sym el) halves.2, subst (λ n. Keeps (depth + 1) n (half depth 1 m)) (sym er) halves.3)

-- a branch that was made of the digest of a kept one and of trees that keep what its halves keep
pub branch-copied : (node : Node) (p q : _) (digest d : List ℕ) (left l l' right r r' : Node) (depth : ℕ) (m : Entries) → node ≡ Branch' p digest left right
    → d ≡ digest → l ≡ l' → r ≡ r' → ((t : ℕ) (n : Entries) → Keeps t left n → Keeps t l' n) → ((t : ℕ) (n : Entries) → Keeps t right n → Keeps t r' n)
    → Keeps depth node m → Keeps depth (Branch' q d l r) m
unfolding Keeps
branch-copied node p q digest d left l l' right r r' depth m is same el er fl fr k =
    let h : Keeps depth (Branch' p digest left right) m = subst (λ n. Keeps depth n m) is k in
    (same ∙ h.0, (h.1.0, h.1.1, rw el (fl _ _ h.1.2), rw er (fr _ _ h.1.3)))

-- a path has no more steps than bits are left
pub steps-most : (left : ℕ) (key : List ℕ) (m : Entries) → length (steps_below left key m) ≤ left
unfolding steps_below
steps-most zero key m = omega arith
steps-most (suc left) key m = by_length (entries m) (steps-most left key (same_half left key m))
  where
    by_length : (es : List Entry) → length (steps_below left key (same_half left key m)) ≤ left
        → length (by_count es [] (λ _. []) (steps_below left key (same_half left key m) ++ digest_below left (other_half left key m) ∷ [])) ≤ suc left
    by_length [] h = omega arith
    by_length (e ∷ []) h = omega arith
    by_length (e ∷ f ∷ es) h = omega (arith, h, length-append (steps_below left key (same_half left key m)) (digest_below left (other_half left key m) ∷ []))

-- the keys and values of what a tree keeps have 32 bytes
pub keeps-digests : (node : Node) (depth : ℕ) (m : Entries) → Keeps depth node m → HoldsDigests m
unfolding Keeps
keeps-digests Empty depth m k key value there = let none = sym there ∙ get-none m key k in absurd (cc)
keeps-digests (Leaf s) depth m k key value there =
    let is = get-one_inverse m (entry_of s) key value k.0 there in
    (subst IsDigest is.0 k.1.key, subst IsDigest is.1 k.1.value)
keeps-digests (Branch' p digest left right) depth m k key value there =
    ⊎_elim
    (λ (at : bit key depth ≡ 0). keeps-digests left (depth + 1) (half depth 0 m) k.1.2 key value (get-here depth 0 m key at ∙ there))
    (λ (at : bit key depth ≡ 1). keeps-digests right (depth + 1) (half depth 1 m) k.1.3 key value (get-here depth 1 m key at ∙ there))
    (two_bits key depth)
