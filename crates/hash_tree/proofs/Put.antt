-- A tree that takes an entry in.
use Rattle.std.proofs.Common.{◌≡◌, ◌≢◌, ℕ, ◌+◌, ◌-◌, ◌<◌, ◌≤◌, List, [], ◌∷◌, length, refl, sym, ap, ◌∙◌, subst, ⊎_elim, arith, Bool, true, false, cond, Some, None, Result, Ok, Err}
use Rattle.std.specs.Prelude.{OnOk}
use Rattle.std.specs.Ordering.{eq_by_cmp}
use Rattle.std.specs.FinMap.{contains_key, insert, entries, same_map, get-insert, get-from_entries, len-insert, len-entries}
use Rattle.std.proofs.lemmas.Bool.{cases_lt}
use Rattle.hash_tree.specs.Entries.{Entries, key_cmp, entries_of, bit, half}
use Rattle.hash_tree.specs.Path.{steps_below}
use Rattle.hash_tree.specs.Kept.{map_of, Keeps, HasHalves, AgreesWith}
use Rattle.hash_tree.specs.declared.node.Stored.{Stored}
use Rattle.hash_tree.specs.declared.node.Node.{Node}
use Rattle.hash_tree.specs.declared.node.Node.TheVariants.{Empty, Leaf}
use Rattle.hash_tree.proofs.Maps.{total, exact, key-half, entries-entries_of}
use Rattle.hash_tree.proofs.Changed.{half-put, half-not_put}
use Rattle.hash_tree.proofs.Kept.{keeps-map, steps-deeper}

-- keys that agree so far agree in one more bit in the half of this key
pub agrees-deeper : (depth : ℕ) (key : List ℕ) (m : Entries) → AgreesWith depth key m → AgreesWith (depth + 1) key (half depth (bit key depth) m)
agrees-deeper depth key m agrees other there i l =
    let known = key-half depth (bit key depth) m other there in
    ⊎_elim (λ (below : i < depth). agrees other known.0 i below)
    (λ (above : depth ≤ i). let at : i ≡ depth = omega arith in rw at (sym known.1))
    (cases_lt i depth)

pub agrees-side : (side depth : ℕ) (key : List ℕ) (m n : Entries) → bit key depth ≡ side → n ≡ half depth side m → AgreesWith depth key m → AgreesWith (depth + 1) key n
agrees-side side depth key m n at is agrees =
    subst (AgreesWith (depth + 1) key) (ap (λ s. half depth s m) at ∙ sym is) (agrees-deeper depth key m agrees)

-- what follows from two facts that hold of an answer that is no fault
pub on_ok_both : {T E : Type 0} {P Q R : Type 0} (r : Result T E) → (P → Q → R) → OnOk r P → OnOk r Q → OnOk r R
on_ok_both (Ok x) f p q = f p q
on_ok_both (Err e) f p q = p

-- one entry more is no fewer
grown : (b : Bool) (n : ℕ) → n ≤ cond b n (n + 1)
grown true n = omega arith
grown false n = omega arith

pub put-several : (m : Entries) (key value : List ℕ) → 2 ≤ length (entries m) → 2 ≤ length (entries (insert m key value))
put-several m key value many =
    let longer : length (entries (insert m key value)) ≡ cond (contains_key m key) (length (entries m)) (length (entries m) + 1)
    = sym (len-entries (insert m key value)) ∙ len-insert total m key value ∙ rw (len-entries m) in
    omega (arith, longer, grown (contains_key m key) (length (entries m)))

-- in place of the one entry
pub put-same : (key value old : List ℕ) → entries (insert (entries_of ((key, old) ∷ [])) key value) ≡ (key, value) ∷ []
put-same key value old =
    ap entries (same_map total exact (insert (entries_of ((key, old) ∷ [])) key value) (entries_of ((key, value) ∷ [])) (λ q.
    get-insert total (entries_of ((key, old) ∷ [])) key value q
    ∙ ap (cond (eq_by_cmp key_cmp q key) (Some value)) (get-from_entries total ((key, old) ∷ []) q)
    ∙ once (eq_by_cmp key_cmp q key)
    ∙ sym (get-from_entries total ((key, value) ∷ []) q)))
    ∙ entries-entries_of ((key, value) ∷ []) refl
  where
    once : (b : Bool) → cond b (Some value) (cond b (Some old) None) ≡ cond b (Some value) None
    once true = refl
    once false = refl

-- where the tree is empty, and where it has an entry with this key
pub put-none : (node : Node) (key value : List ℕ) → node ≡ Empty → entries (insert (map_of node) key value) ≡ (key, value) ∷ []
put-none node key value is = ap (λ n. entries (insert (map_of n) key value)) is ∙ entries-entries_of ((key, value) ∷ []) refl

pub put-over : (node : Node) (s : Stored) (key value : List ℕ) → node ≡ Leaf s → s.key ≡ key → entries (insert (map_of node) key value) ≡ (key, value) ∷ []
put-over node s key value is same =
    ap (λ n. entries (insert (map_of n) key value)) is
    ∙ ap (λ k. entries (insert (entries_of ((k, s.value) ∷ [])) key value)) same
    ∙ put-same key value s.value

-- the half of the key takes the entry in, and the other stays
pub put-left : (left l right : Node) (depth : ℕ) (m : Entries) (key value : List ℕ) → HasHalves depth left right m → bit key depth ≡ 0
    → Keeps (depth + 1) l (insert (map_of left) key value) → HasHalves depth l right (insert m key value)
put-left left l right depth m key value halves at kl =
    let stays : bit key depth ≢ 1 = λ e. omega (arith, e) in
    let is_left = keeps-map left (depth + 1) _ halves.2 in (
      halves.0,
      put-several m key value halves.1,
      subst (Keeps (depth + 1) l) (ap (λ n. insert n key value) is_left ∙ sym (half-put depth 0 m key value at)) kl,
      subst (Keeps (depth + 1) right) (sym (half-not_put depth 1 m key value stays)) halves.3,
    )

pub put-right : (left right r : Node) (depth : ℕ) (m : Entries) (key value : List ℕ) → HasHalves depth left right m → bit key depth ≡ 1
    → Keeps (depth + 1) r (insert (map_of right) key value) → HasHalves depth left r (insert m key value)
put-right left right r depth m key value halves at kr =
    let stays : bit key depth ≢ 0 = λ e. omega (arith, e) in
    let is_right = keeps-map right (depth + 1) _ halves.3 in (
      halves.0,
      put-several m key value halves.1,
      subst (Keeps (depth + 1) left) (sym (half-not_put depth 0 m key value stays)) halves.2,
      subst (Keeps (depth + 1) r) (ap (λ n. insert n key value) is_right ∙ sym (half-put depth 1 m key value at)) kr,
    )

-- the path of the key has one step more than in the half that took it in
pub put-steps : (side depth : ℕ) (m n : Entries) (key value : List ℕ) → depth < 256 → 2 ≤ length (entries m) → bit key depth ≡ side → n ≡ half depth side m
    → length (steps_below (256 - depth) key (insert m key value)) ≡ length (steps_below (256 - (depth + 1)) key (insert n key value)) + 1
put-steps side depth m n key value below many at is =
    steps-deeper depth key (insert m key value) below (put-several m key value many)
    ∙ ap (λ k. length (steps_below (256 - (depth + 1)) key k) + 1) (ap (λ s. half depth s (insert m key value)) at ∙ half-put depth side m key value at ∙ ap (λ k. insert k key value) (sym is))
