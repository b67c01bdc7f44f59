-- The newest message to a client, as it is looked for from the last on.
use Rattle.std.proofs.Common.{◌≡◌, ◌<◌, ◌≤◌, ◌+◌, ℕ, zero, suc, Bool, true, false, List, [], ◌∷◌, length, get_or, drop, Option, Some, None, refl, ap, subst, ◌∙◌, arith, if◌then◌else◌, drop-cons}
use Rattle.std.proofs.lemmas.List.{drop_all}
use Rattle.ar_world.specs.Judging.{is_to_client, later_or, newest_from}
use Rattle.ar_nodes.specs.Pool.{Pooled}

-- a later one stands
later : (r : Option ℕ) (holds : Bool) (number m : ℕ) → r ≡ Some m → later_or r holds number ≡ Some m
later (Some l) holds number m is = is
later None holds number m is = absurd (cc)

-- where the messages from a place on have one, it is that of all
front : (k n : ℕ) (xs : List Pooled) (m : ℕ) → newest_from (n + k) (drop k xs) ≡ Some m → newest_from n xs ≡ Some m
unfolding newest_from
front zero n xs m is = let e : n + 0 ≡ n = omega arith in subst (λ i. newest_from i xs ≡ Some m) e is
front (suc k) n [] m is = is
front (suc k) n (x ∷ xs) m is = later (newest_from (n + 1) xs) (is_to_client x.to) n m
    (front k (n + 1) xs m (let e : n + suc k ≡ n + 1 + k = omega arith in subst (λ i. newest_from i (drop k xs) ≡ Some m) e is))

-- the first of some messages
one : (n : ℕ) (xs : List Pooled) (x : Pooled) → newest_from n (x ∷ xs) ≡ later_or (newest_from (n + 1) xs) (is_to_client x.to) n
unfolding newest_from
one n xs x = refl

-- there is none behind the last
pub newest_end : (xs : List Pooled) (n place : ℕ) → length xs ≤ place → newest_from n (drop place xs) ≡ None
unfolding newest_from
newest_end xs n place e = ap (newest_from n) (drop_all place xs e)

-- one message more
at : (k : ℕ) (xs : List Pooled) (x : Pooled) → k < length xs → get_or xs k x ≡ x → newest_from (k + 1 + 1) (drop (k + 1) xs) ≡ None
    → newest_from (k + 1) (drop k xs) ≡ (if is_to_client x.to then Some (k + 1) else None)
at k xs x in_list is none =
    ap (newest_from (k + 1)) (drop-cons xs k x in_list ∙ ap (λ y. y ∷ drop (suc k) xs) is) ∙ one (k + 1) (drop (suc k) xs) x
    ∙ ap (λ r. later_or r (is_to_client x.to) (k + 1)) (let e : k + 1 ≡ suc k = omega arith in subst (λ i. newest_from (k + 1 + 1) (drop i xs) ≡ None) e none)

again : (k place : ℕ) (xs : List Pooled) → place ≡ k + 1 → newest_from (place + 1) (drop place xs) ≡ None → newest_from (k + 1 + 1) (drop (k + 1) xs) ≡ None
again k place xs same none = subst (λ i. newest_from (i + 1) (drop i xs) ≡ None) same none

-- one that goes to no client
pub newest_past : (place k : ℕ) (xs : List Pooled) (x : Pooled) → place ≡ k + 1 → place ≤ length xs → get_or xs k x ≡ x
    → newest_from (place + 1) (drop place xs) ≡ None → is_to_client x.to ≡ false → newest_from (k + 1) (drop k xs) ≡ None
newest_past place k xs x same in_list is none not =
    at k xs x (omega arith) is (again k place xs same none) ∙ ap (λ b. if b then Some (k + 1) else None) not

-- one that does
pub newest_here : (place k : ℕ) (xs : List Pooled) (x : Pooled) → place ≡ k + 1 → place ≤ length xs → get_or xs k x ≡ x
    → newest_from (place + 1) (drop place xs) ≡ None → is_to_client x.to ≡ true → newest_from 1 xs ≡ Some (k + 1)
newest_here place k xs x same in_list is none here =
    let found : newest_from (k + 1) (drop k xs) ≡ Some (k + 1) = at k xs x (omega arith) is (again k place xs same none) ∙ ap (λ b. if b then Some (k + 1) else None) here in
    front k 1 xs (k + 1) (let e : k + 1 ≡ 1 + k = omega arith in subst (λ i. newest_from i (drop k xs) ≡ Some (k + 1)) e found)

pub ruleset newest_laws = (newest_past, newest_end)
