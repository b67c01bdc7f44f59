-- How many distinct numbers a list has, with one more number.
use Rattle.std.proofs.Common.{◌≡◌, ℕ, ◌+◌, ◌<◌, ◌≤◌, List, [], ◌∷◌, ◌++◌, length, get_or, take, ap, ◌∙◌, arith, Bool, cond, eqb, true, sym}
use Rattle.std.specs.List.{list_any}
use Rattle.std.specs.FinSet.{len, contains-from_list_nat, len-insert, len-empty, from_list_push, nat_cmp-IsAntisymmetric}
use Rattle.std.specs.Ordering.{nat_cmp}
use Rattle.std.specs.Prelude.{Contains}
use Rattle.std.proofs.lemmas.Cmp.{nat_cmp_total}
use Rattle.std.proofs.lemmas.List.{take_more}
use Rattle.std.proofs.lemmas.List.Folds.{list_any_at}
use Rattle.std.proofs.lemmas.Bool.{cond_both, eqb-true, eq-eqb}
use Rattle.std.proofs.lemmas.Map.Views.{Contains-from_any}
use Rattle.vote_quorum.specs.Numbers.{set_of, distinct_count}

-- whether a number stands in a list
abbrev pub among : ℕ → List ℕ → Bool
among n numbers = list_any (λ y. eqb y n) numbers

-- a number that is found stands in the list, and the other way round
pub Contains-from_among : (xs : List ℕ) (k : ℕ) → among k xs ≡ true → Contains xs k
Contains-from_among xs k h = Contains-from_any {eq = λ a b. eqb b a} (λ x y e. sym (eqb-true y x e)) k xs h

pub among-from_Contains : (xs : List ℕ) (k : ℕ) → Contains xs k → among k xs ≡ true
among-from_Contains xs k there = list_any_at (λ y. eqb y k) xs there.0 k there.1 (eq-eqb _ k there.2)

pub distinct_count-push : (ks : List ℕ) (k : ℕ) → distinct_count (ks ++ k ∷ []) ≡ cond (among k ks) (distinct_count ks) (distinct_count ks + 1)
distinct_count-push ks k =
    ap len (from_list_push nat_cmp_total nat_cmp-IsAntisymmetric ks k)
    ∙ len-insert nat_cmp_total (set_of ks) k
    ∙ ap (λ b. cond b (distinct_count ks) (distinct_count ks + 1)) (contains-from_list_nat ks k)

pub distinct_count-cons : (k : ℕ) (ks : List ℕ) → distinct_count (k ∷ ks) ≡ cond (among k ks) (distinct_count ks) (distinct_count ks + 1)
distinct_count-cons k ks =
    len-insert nat_cmp_total (set_of ks) k
    ∙ ap (λ b. cond b (distinct_count ks) (distinct_count ks + 1)) (contains-from_list_nat ks k)

pub distinct_count-nil : distinct_count [] ≡ 0
distinct_count-nil = len-empty nat_cmp

-- a loop's step
pub distinct_more : (xs : List ℕ) (i : ℕ) → i < length xs → distinct_count (take (i + 1) xs) ≡ cond (among (get_or xs i 0) (take i xs)) (distinct_count (take i xs)) (distinct_count (take i xs) + 1)
distinct_more xs i h = ap distinct_count (take_more xs i 0 h) ∙ distinct_count-push (take i xs) (get_or xs i 0)

-- no list has more distinct numbers than it is long
pub distinct_count-le : (ks : List ℕ) → distinct_count ks ≤ length ks
distinct_count-le [] = omega (arith, distinct_count-nil)
distinct_count-le (k ∷ ks) =
    rw (distinct_count-cons k ks)
    (cond_both (among k ks) (distinct_count ks) (distinct_count ks + 1) (λ n. n ≤ length (k ∷ ks))
    (λ _. omega (arith, distinct_count-le ks))
    (λ _. omega (arith, distinct_count-le ks)))

pub ruleset counting = (distinct_count-nil)
