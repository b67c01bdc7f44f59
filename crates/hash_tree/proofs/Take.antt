-- A tree that gives an entry up.
use Rattle.std.proofs.Common.{◌≡◌, ◌≢◌, ℕ, ◌+◌, ◌-◌, ◌<◌, ◌≤◌, List, [], ◌∷◌, length, refl, sym, ap, ◌∙◌, subst, arith, Bool, true, false, cond, Option, Some, None}
use Rattle.std.proofs.lemmas.List.{nil_from_length}
use Rattle.std.specs.Prelude.{IsTrue, is_some, filter, ◌==◌}
use Rattle.std.specs.Ordering.{eq_by_cmp}
use Rattle.std.specs.FinMap.{get, contains_key, remove, entries, same_map, get-remove, len-remove, len-entries}
use Rattle.hash_tree.specs.Strings.{node_digest}
use Rattle.hash_tree.specs.Entries.{Entry, Entries, key_cmp, entries_of, bit, half, of_side}
use Rattle.hash_tree.specs.Path.{steps_below}
use Rattle.hash_tree.specs.Kept.{map_both, digest_of, Keeps, IsStored, IsLeft, lone_of, entry_of}
use Rattle.hash_tree.specs.declared.node.Stored.{Stored}
use Rattle.hash_tree.specs.declared.node.Branch.{Branch}
use Rattle.hash_tree.specs.declared.node.Node.{Node}
use Rattle.hash_tree.specs.declared.node.Node.TheVariants.{Empty, Leaf, Branch'}
use Rattle.hash_tree.proofs.Maps.{total, exact, key-half, half-entries_of, ascending-of_side, entries-entries_of}
use Rattle.hash_tree.proofs.Few.{get-one, ascending-entries, entries_of-entries}
use Rattle.hash_tree.proofs.Changed.{get-here, half-cut, half-not_cut, same_key}
use Rattle.hash_tree.proofs.Two.{two-several}
use Rattle.hash_tree.proofs.Kept.{both-map, halves-digest, steps-none, steps-deeper}
use Rattle.ar_base.proofs.Shown.{none_of}

-- the entries of a half are some of the map's
half-list : (t side : ℕ) (m : Entries) → entries (half t side m) ≡ of_side t side (entries m)
half-list t side m =
    ap (λ n. entries (half t side n)) (sym (entries_of-entries m))
    ∙ ap entries (half-entries_of t side (entries m))
    ∙ entries-entries_of _ (ascending-of_side t side (entries m) (ascending-entries m))

filter-shorter : (p : Entry → Bool) (es : List Entry) → length (filter p es) ≤ length es
filter-shorter p [] = omega arith
filter-shorter p (e ∷ es) =
    elim (p e) as (λ b. length (cond b (e ∷ filter p es) (filter p es)) ≤ length (e ∷ es)) [
      | true ↦ omega (arith, filter-shorter p es)
      | false ↦ omega (arith, filter-shorter p es)
    ]

pub half-shorter : (t side : ℕ) (m : Entries) → length (entries (half t side m)) ≤ length (entries m)
half-shorter t side m = omega (arith, ap length (half-list t side m), filter-shorter (λ e. bit e.0 t == side) (entries m))

-- one entry less
shrunk : (m : Entries) (key : List ℕ) → length (entries (remove m key)) ≡ cond (contains_key m key) (length (entries m) - 1) (length (entries m))
shrunk m key = sym (len-entries (remove m key)) ∙ len-remove total m key ∙ rw (len-entries m)

less : (b : Bool) (n : ℕ) → 2 ≤ n → 1 ≤ cond b (n - 1) n
less true n h = omega arith
less false n h = omega arith

pub cut-some : (m : Entries) (key : List ℕ) → 2 ≤ length (entries m) → 1 ≤ length (entries (remove m key))
cut-some m key many = omega (arith, shrunk m key, less (contains_key m key) (length (entries m)) many)

pub cut-only : (m : Entries) (e : Entry) (key : List ℕ) → entries m ≡ e ∷ [] → IsTrue (contains_key m key) → entries (remove m key) ≡ []
cut-only m e key only there =
    nil_from_length _ (shrunk m key ∙ ap (λ b. cond b (length (entries m) - 1) (length (entries m))) there ∙ ap (λ es. length es - 1) only)

-- one entry alone
IsAlone : Option Stored → Entries → Type 0
IsAlone None m = Unit {0}
IsAlone (Some s) m = (entries m ≡ entry_of s ∷ []) × IsStored s

only-map : (left right : Node) (depth : ℕ) (m : Entries) (e : Entry) → Keeps (depth + 1) left (half depth 0 m) → Keeps (depth + 1) right (half depth 1 m)
    → map_both left right ≡ entries_of (e ∷ []) → entries m ≡ e ∷ []
only-map left right depth m e kl kr is =
    ap entries (sym (both-map left right depth m kl kr) ∙ is) ∙ entries-entries_of (e ∷ []) refl

alone : (left right : Node) (depth : ℕ) (m : Entries) → Keeps (depth + 1) left (half depth 0 m) → Keeps (depth + 1) right (half depth 1 m) → IsAlone (lone_of left right) m
unfolding Keeps IsAlone
alone Empty Empty depth m kl kr = tt
alone Empty (Leaf s) depth m kl kr = (only-map Empty (Leaf s) depth m (entry_of s) kl kr refl, kr.1)
alone Empty (Branch' p digest l r) depth m kl kr = tt
alone (Leaf s) Empty depth m kl kr = (only-map (Leaf s) Empty depth m (entry_of s) kl kr refl, kl.1)
alone (Leaf s) (Leaf t) depth m kl kr = tt
alone (Leaf s) (Branch' p digest l r) depth m kl kr = tt
alone (Branch' p digest l r) right depth m kl kr = tt

-- the key of the one entry in a half has the bit
bit-only : (depth side : ℕ) (m : Entries) (s : Stored) → entries (half depth side m) ≡ entry_of s ∷ [] → bit s.key depth ≡ side
bit-only depth side m s only = (key-half depth side m s.key (ap is_some (get-one (half depth side m) (entry_of s) only))).1

-- where no entry is alone, and there are some, there are several
several-left : (left right : Node) (depth : ℕ) (m : Entries) → Keeps (depth + 1) left (half depth 0 m) → Keeps (depth + 1) right (half depth 1 m)
    → 1 ≤ length (entries m) → lone_of left right ≡ None → 2 ≤ length (entries m)
unfolding Keeps
several-left Empty Empty depth m kl kr some none =
    absurd (omega (arith, ap length (ap entries (sym (both-map Empty Empty depth m kl kr)) ∙ entries-entries_of [] refl)))
several-left Empty (Leaf s) depth m kl kr some none = absurd (cc)
several-left Empty (Branch' p digest l r) depth m kl kr some none = omega (arith, kr.1.1, half-shorter depth 1 m)
several-left (Leaf s) Empty depth m kl kr some none = absurd (cc)
several-left (Leaf s) (Leaf t) depth m kl kr some none =
    let left : bit s.key depth ≡ 0 = bit-only depth 0 m s kl.0 in
    let right : bit t.key depth ≡ 1 = bit-only depth 1 m t kr.0 in
    subst (λ n. 2 ≤ length (entries n)) (both-map (Leaf s) (Leaf t) depth m kl kr)
    (two-several s t (λ e. omega (arith, ap (λ k. bit k depth) e, left, right)))
several-left (Leaf s) (Branch' p digest l r) depth m kl kr some none = omega (arith, kr.1.1, half-shorter depth 1 m)
several-left (Branch' p digest l r) right depth m kl kr some none = omega (arith, kl.1.1, half-shorter depth 0 m)

-- what is left after a key was taken out, in both cases
pub left-alone : (o : Option Stored) (branch : Branch) (left right : Node) (depth : ℕ) (m : Entries) → o ≡ lone_of left right → is_some o ≡ true
    → Keeps (depth + 1) left (half depth 0 m) → Keeps (depth + 1) right (half depth 1 m) → IsLeft depth o branch m
unfolding IsAlone
left-alone None branch left right depth m is one kl kr = absurd (cc)
left-alone (Some s) branch left right depth m is one kl kr = subst (λ o. IsAlone o m) (sym is) (alone left right depth m kl kr)

pub left-several : (o : Option Stored) (branch : Branch) (depth : ℕ) (m : Entries) → o ≡ lone_of branch.left branch.right → is_some o ≡ false
    → branch.digest ≡ node_digest (digest_of branch.left) (digest_of branch.right) → depth < 256 → 1 ≤ length (entries m)
    → Keeps (depth + 1) branch.left (half depth 0 m) → Keeps (depth + 1) branch.right (half depth 1 m) → IsLeft depth o branch m
left-several None branch depth m is none hashed below some kl kr =
    let many : 2 ≤ length (entries m) = several-left branch.left branch.right depth m kl kr some (sym is) in
    (halves-digest branch.digest branch.left branch.right depth m hashed (below, many, kl, kr), (below, many, kl, kr))
left-several (Some s) branch depth m is none hashed below some kl kr = absurd (cc)

-- and how many steps the path of any key has then
pub alone-steps : (o : Option Stored) (left right : Node) (depth : ℕ) (m : Entries) (key : List ℕ) → o ≡ lone_of left right → is_some o ≡ true
    → Keeps (depth + 1) left (half depth 0 m) → Keeps (depth + 1) right (half depth 1 m)
    → (length (steps_below (256 - depth) key m) ≡ 0) × (length (steps_below (256 - (depth + 1)) key (half depth (bit key depth) m)) ≡ 0)
unfolding IsAlone
alone-steps None left right depth m key is one kl kr = absurd (cc)
alone-steps (Some s) left right depth m key is one kl kr =
    let only : IsAlone (Some s) m = subst (λ o. IsAlone o m) (sym is) (alone left right depth m kl kr) in
    let few : length (entries m) < 2 = omega (arith, ap length only.0) in
    (steps-none (256 - depth) key m few, steps-none _ key _ (omega (arith, half-shorter depth (bit key depth) m, few)))

pub several-steps : (o : Option Stored) (left right : Node) (depth : ℕ) (m : Entries) (key : List ℕ) → o ≡ lone_of left right → is_some o ≡ false
    → depth < 256 → 1 ≤ length (entries m) → Keeps (depth + 1) left (half depth 0 m) → Keeps (depth + 1) right (half depth 1 m)
    → length (steps_below (256 - depth) key m) ≡ length (steps_below (256 - (depth + 1)) key (half depth (bit key depth) m)) + 1
several-steps None left right depth m key is none below some kl kr = steps-deeper depth key m below (several-left left right depth m kl kr some (sym is))
several-steps (Some s) left right depth m key is none below some kl kr = absurd (cc)

-- the half of the key gives the entry up, and the other stays
pub cut-here : (side depth : ℕ) (m n : Entries) (node : Node) (key : List ℕ) → n ≡ half depth side m → Keeps (depth + 1) node (remove n key)
    → Keeps (depth + 1) node (half depth side (remove m key))
cut-here side depth m n node key is k = subst (Keeps (depth + 1) node) (ap (λ h. remove h key) is ∙ sym (half-cut depth side m key)) k

pub cut-elsewhere : (side depth : ℕ) (m : Entries) (node : Node) (key : List ℕ) → bit key depth ≢ side → Keeps (depth + 1) node (half depth side m)
    → Keeps (depth + 1) node (half depth side (remove m key))
cut-elsewhere side depth m node key lacks k = subst (Keeps (depth + 1) node) (sym (half-not_cut depth side m key lacks)) k

pub cut-steps : (side depth : ℕ) (m n : Entries) (key : List ℕ) (left : ℕ) → n ≡ half depth side m → bit key depth ≡ side
    → length (steps_below left key (remove n key)) ≡ length (steps_below left key (half depth (bit key depth) (remove m key)))
cut-steps side depth m n key left is at =
    ap (λ h. length (steps_below left key h)) (ap (λ h. remove h key) is ∙ sym (half-cut depth side m key) ∙ ap (λ s. half depth s (remove m key)) (sym at))

pub there-below : (side depth : ℕ) (m n : Entries) (key : List ℕ) → n ≡ half depth side m → bit key depth ≡ side → IsTrue (contains_key m key) → IsTrue (contains_key n key)
there-below side depth m n key is at there =
    ap (λ h. contains_key h key) is ∙ ap is_some (get-here depth side m key at) ∙ there

-- where the key is not there, nothing goes out
pub cut-absent : (m : Entries) (key : List ℕ) → contains_key m key ≡ false → remove m key ≡ m
cut-absent m key missing = same_map total exact _ _ (λ q. get-remove total m key q ∙ at q (eq_by_cmp key_cmp q key) refl)
  where
    at : (q : List ℕ) (b : Bool) → eq_by_cmp key_cmp q key ≡ b → cond b None (get m q) ≡ get m q
    at q true e = sym (none_of (get m q) (ap (contains_key m) (same_key q key e) ∙ missing))
    at q false e = refl
