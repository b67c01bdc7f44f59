-- Sets of entries with none or one, and that no more than one are left where all bits are decided.
use Rattle.std.proofs.Common.{◌≡◌, ◌≢◌, ℕ, ◌<◌, ◌≤◌, List, [], ◌∷◌, length, get_or, refl, sym, ap, ◌∙◌, subst, arith, Bool, true, false, cond, Some, None}
use Rattle.std.specs.Prelude.{IsTrue, All}
use Rattle.std.specs.Ordering.{eq_by_cmp, is_eq}
use Rattle.std.specs.Cmp.{tied_itself, Equal-is}
use Rattle.std.specs.FinMap.{get, contains_key, entries, find, get-entries, same_entries_map, entries_sorted}
use lib.Ieee.Bits.{is_true}
use Rattle.ar_base.specs.Bytes.{IsDigest}
use Rattle.ar_base.proofs.Shown.{some_of}
use Rattle.hash_tree.specs.Entries.{Entry, Entries, key_cmp, entries_of, HasAscendingKeys, HoldsDigests, AgreeAmong}
use Rattle.hash_tree.proofs.Maps.{total, exact, entries-entries_of, key_there, depth_below}

pub get-none : (m : Entries) (q : List ℕ) → entries m ≡ [] → get m q ≡ None
get-none m q none = get-entries m q ∙ ap (find key_cmp q) none

pub get-one : (m : Entries) (e : Entry) → entries m ≡ e ∷ [] → get m e.0 ≡ Some e.1
get-one m e one = get-entries m e.0 ∙ ap (find key_cmp e.0) one ∙ ap (λ b. cond b (Some e.1) None) (ap is_eq (tied_itself total e.0))

pub get-one_key : (m : Entries) (e : Entry) (q : List ℕ) → entries m ≡ e ∷ [] → e.0 ≡ q → get m q ≡ Some e.1
get-one_key m e q one same = ap (get m) (sym same) ∙ get-one m e one

pub get-other : (m : Entries) (e : Entry) (q : List ℕ) → entries m ≡ e ∷ [] → e.0 ≢ q → get m q ≡ None
get-other m e q one other = get-entries m q ∙ ap (find key_cmp q) one ∙ apart_from (eq_by_cmp key_cmp q e.0) refl
  where
    apart_from : (b : Bool) → eq_by_cmp key_cmp q e.0 ≡ b → cond b (Some e.1) None ≡ None
    apart_from true t = absurd (other (sym (exact q e.0 ((Equal-is _).0 t))))
    apart_from false t = refl

-- what the only entry is
pub get-one_inverse : (m : Entries) (e : Entry) (q v : List ℕ) → entries m ≡ e ∷ [] → get m q ≡ Some v → (e.0 ≡ q) × (e.1 ≡ v)
get-one_inverse m e q v one there = from_test (eq_by_cmp key_cmp q e.0) refl (sym (get-entries m q ∙ ap (find key_cmp q) one) ∙ there)
  where
    from_test : (b : Bool) → eq_by_cmp key_cmp q e.0 ≡ b → cond b (Some e.1) None ≡ Some v → (e.0 ≡ q) × (e.1 ≡ v)
    from_test true t h = (sym (exact q e.0 ((Equal-is _).0 t)), cc)
    from_test false t h = absurd (cc)

pub ascending-entries : (m : Entries) → HasAscendingKeys (entries m)
ascending-entries m = is_true _ (entries_sorted m)

pub entries_of-entries : (m : Entries) → entries_of (entries m) ≡ m
entries_of-entries m = same_entries_map _ _ (entries-entries_of (entries m) (ascending-entries m))

-- no two keys agree in all 256 bits
pub few_left : (m : Entries) → HoldsDigests m → AgreeAmong 256 m → 2 ≤ length (entries m) → ⊥
few_left m digests agree several =
    let there : (k : ℕ) (d : Entry) → k < length (entries m) → IsTrue (contains_key m (get_or (entries m) k d).0)
    = λ k d l. subst (λ n. IsTrue (contains_key n (get_or (entries m) k d).0)) (entries_of-entries m) (key_there (entries m) k d l) in
    let keys : All (λ e. IsDigest e.0) (entries m)
    = λ k d l. let v = some_of _ (there k d l) in (digests _ v.0 v.1).0 in
    let low = depth_below (entries m) 256 (ascending-entries m) keys (subst (AgreeAmong 256) (sym (entries_of-entries m)) agree) several (omega arith) in
    omega arith
