-- How long a path is, and that what goes out leaves no trace.
use Rattle.std.proofs.Common.{◌≡◌, ◌≢◌, ℕ, zero, suc, ◌+◌, ◌-◌, ◌<◌, ◌≤◌, List, length, sym, ap, ◌∙◌, ⊎_elim, arith, refl, Bool, true, false, cond, Some, None}
use Rattle.std.specs.Prelude.{IsTrue, is_some}
use Rattle.std.specs.Ordering.{eq_by_cmp}
use Rattle.std.specs.FinMap.{get, contains_key, insert, remove, same_map, get-insert, get-remove}
use Rattle.std.proofs.lemmas.Bool.{cases_lt}
use Rattle.hash_tree.specs.Entries.{Entries, key_cmp, bit, Agree, half}
use Rattle.hash_tree.specs.Path.{steps_below, steps_of}
use Rattle.hash_tree.proofs.Maps.{total, exact}
use Rattle.hash_tree.proofs.Changed.{get-here, several, same_key}
use Rattle.hash_tree.proofs.Kept.{steps-deeper}

there : (depth side : ℕ) (m : Entries) (key : List ℕ) → bit key depth ≡ side → IsTrue (contains_key m key) → IsTrue (contains_key (half depth side m) key)
there depth side m key at h = ap is_some (get-here depth side m key at) ∙ h

longer : (left depth : ℕ) → left + depth ≡ 256 → (m : Entries) (key other : List ℕ) (n : ℕ) → IsTrue (contains_key m key) → IsTrue (contains_key m other)
    → key ≢ other → Agree n key other → n < 256 → n < length (steps_below (256 - depth) key m) + depth
longer zero depth at m key other n hk ho differ agree below = omega arith
longer (suc left) depth at m key other n hk ho differ agree below =
    let deeper = steps-deeper depth key m (omega arith) (several m key other hk ho differ) in
    ⊎_elim
    (λ (l : depth < n).
    let rest = longer left (depth + 1) (omega arith) (half depth (bit key depth) m) key other n
    (there depth (bit key depth) m key refl hk) (there depth (bit key depth) m other (sym (agree depth l)) ho) differ agree below in
    omega arith)
    (λ (h : n ≤ depth). omega arith)
    (cases_lt depth n)

pub passes : (m : Entries) (key other : List ℕ) (depth : ℕ) → IsTrue (contains_key m key) → IsTrue (contains_key m other)
    → key ≢ other → Agree depth key other → depth < 256 → depth < length (steps_of key m)
passes m key other depth hk ho differ agree below =
    let far : depth < length (steps_of key m) + 0 = longer 256 0 refl m key other depth hk ho differ agree below in
    omega arith

pub no_trace : (m : Entries) (key value : List ℕ) → get m key ≡ None → remove (insert m key value) key ≡ m
no_trace m key value missing = same_map total exact _ _ (λ q.
    get-remove total (insert m key value) key q
    ∙ ap (cond (eq_by_cmp key_cmp q key) None) (get-insert total m key value q)
    ∙ at q (eq_by_cmp key_cmp q key) refl)
  where
    at : (q : List ℕ) (b : Bool) → eq_by_cmp key_cmp q key ≡ b → cond b None (cond b (Some value) (get m q)) ≡ get m q
    at q true e = sym (ap (get m) (same_key q key e) ∙ missing)
    at q false e = refl
