-- How many distinct numbers two lists share.
use Rattle.std.proofs.Common.{◌≡◌, ℕ, ◌+◌, ◌*◌, ◌<◌, ◌≤◌, List, [], ◌∷◌, ◌++◌, length, get_or, take, refl, sym, ap, ◌∙◌, arith, Bool, true, false, cond, eqb, not, ◌&&◌, ◌||◌}
use Rattle.std.specs.Prelude.{All}
use Rattle.std.specs.List.{AllByRecursion, IsDistinct, filter}
use Rattle.std.specs.FinSet.{len, contains, intersection, contains-from_list_nat, contains-intersection, same_set, nat_cmp-IsAntisymmetric}
use Rattle.std.proofs.lemmas.Cmp.{nat_cmp_total}
use Rattle.std.proofs.lemmas.Bool.{eqb-true, eqb-false, ne_eqb, and_right}
use Rattle.std.proofs.lemmas.List.{append-nil}
use Rattle.std.proofs.lemmas.List.Elements.{recursion_from_All, filter_more}
use Rattle.vote_quorum.specs.Numbers.{set_of, distinct_count, shared_count}
use Rattle.vote_quorum.proofs.Counting.{among, distinct_count-cons, distinct_count-nil, distinct_count-push}
use Rattle.vote_quorum.specs.Counted.{count_below}
use Rattle.vote_quorum.proofs.Below.{count_below-same, count_below-both, distinct_count-below}

-- what stands in a filtered list
pub among-filter : (p : ℕ → Bool) (q : ℕ) (xs : List ℕ) → among q (filter p xs) ≡ (among q xs && p q)
among-filter p q [] = refl
among-filter p q (x ∷ xs) =
    elim (p x) as (λ b. p x ≡ b → among q (cond b (x ∷ filter p xs) (filter p xs)) ≡ ((eqb x q || among q xs) && p q)) [
      | true ↦ λ e. elim (eqb x q) as (λ c. eqb x q ≡ c → (c || among q (filter p xs)) ≡ ((c || among q xs) && p q)) [
        | true ↦ λ f. sym (ap p (sym (eqb-true x q f)) ∙ e)
        | false ↦ λ f. among-filter p q xs
      ] refl
      | false ↦ λ e. elim (eqb x q) as (λ c. eqb x q ≡ c → among q (filter p xs) ≡ ((c || among q xs) && p q)) [
        | true ↦ λ f.
            let fails : p q ≡ false = ap p (sym (eqb-true x q f)) ∙ e in
            among-filter p q xs ∙ and_right (among q xs) (p q) fails ∙ sym fails
        | false ↦ λ f. among-filter p q xs
      ] refl
    ] refl

-- what two lists share are the distinct numbers of the one that stand in the other
pub shared_count-filter : (one other : List ℕ) → shared_count one other ≡ distinct_count (filter (λ x. among x other) one)
shared_count-filter one other =
    let same : intersection (set_of one) (set_of other) ≡ set_of (filter (λ x. among x other) one) =
    same_set nat_cmp_total nat_cmp-IsAntisymmetric _ _ (λ q.
    contains-intersection nat_cmp_total (set_of one) (set_of other) q
    ∙ ap (λ b. b && contains (set_of other) q) (contains-from_list_nat one q)
    ∙ ap (λ b. among q one && b) (contains-from_list_nat other q)
    ∙ sym (contains-from_list_nat (filter (λ x. among x other) one) q ∙ among-filter (λ x. among x other) q one))
    in ap len same

-- a filter keeps what holds of each element
pub All-filtered : (P : ℕ → Type 0) (p : ℕ → Bool) (xs : List ℕ) → AllByRecursion P xs → AllByRecursion P (filter p xs)
All-filtered P p [] all = tt
All-filtered P p (x ∷ xs) all =
    elim (p x) as (λ b. AllByRecursion P (cond b (x ∷ filter p xs) (filter p xs))) [
      | true ↦ (all.0, All-filtered P p xs all.1)
      | false ↦ All-filtered P p xs all.1
    ]

-- two lists of numbers below n share at least as many as they are too many for n
pub shared_count-below : (n : ℕ) (one other : List ℕ) → AllByRecursion (λ k. k < n) one → AllByRecursion (λ k. k < n) other → distinct_count one + distinct_count other ≤ n + shared_count one other
shared_count-below n one other a b =
    let both : shared_count one other ≡ count_below n (λ q. among q one && among q other) =
    shared_count-filter one other
    ∙ distinct_count-below n (filter (λ x. among x other) one) (All-filtered (λ k. k < n) _ one a)
    ∙ count_below-same n _ _ (λ q _. among-filter (λ x. among x other) q one) in
    omega (arith, both, distinct_count-below n one a, distinct_count-below n other b, count_below-both n (λ q. among q one) (λ q. among q other))

pub not_among : (k : ℕ) (ks : List ℕ) → AllByRecursion (λ y. eqb k y ≡ false) ks → among k ks ≡ false
not_among k [] all = refl
not_among k (x ∷ xs) all =
    ap (λ b. b || among k xs) (ne_eqb x k (λ e. eqb-false k x all.0 (sym e))) ∙ not_among k xs all.1

-- a list without repeats
pub distinct_count-distinct : (ks : List ℕ) → IsDistinct (λ a b. eqb a b) ks → distinct_count ks ≡ length ks
unfolding IsDistinct
distinct_count-distinct [] apart = distinct_count-nil
distinct_count-distinct (k ∷ ks) apart =
    distinct_count-cons k ks
    ∙ ap (λ b. cond b (distinct_count ks) (distinct_count ks + 1)) (not_among k ks apart.0)
    ∙ omega (arith, distinct_count-distinct ks apart.1)

-- quorums by their counts
pub three_shared : (n q : ℕ) (one other : List ℕ) → n + 2 < 2 * q → All (λ k. k < n) one → All (λ k. k < n) other → q ≤ distinct_count one → q ≤ distinct_count other → 3 ≤ shared_count one other
three_shared n q one other wide a b f s =
    omega (arith, shared_count-below n one other (recursion_from_All (λ k. k < n) one a) (recursion_from_All (λ k. k < n) other b))

pub shared_count-nil : (others : List ℕ) → shared_count [] others ≡ 0
shared_count-nil others = shared_count-filter [] others ∙ distinct_count-nil

-- a loop's step: one more number
pub shared_more : (others xs : List ℕ) (i : ℕ) → i < length xs → shared_count (take (i + 1) xs) others ≡ cond (among (get_or xs i 0) others && not (among (get_or xs i 0) (take i xs))) (shared_count (take i xs) others + 1) (shared_count (take i xs) others)
shared_more others xs i h =
    shared_count-filter (take (i + 1) xs) others
    ∙ ap distinct_count (filter_more (λ x. among x others) xs i 0 h)
    ∙ step (get_or xs i 0) (take i xs)
    ∙ ap (λ n. cond (among (get_or xs i 0) others && not (among (get_or xs i 0) (take i xs))) (n + 1) n) (sym (shared_count-filter (take i xs) others)) where
      step : (x : ℕ) (ys : List ℕ) → distinct_count (filter (λ x. among x others) ys ++ cond (among x others) (x ∷ []) []) ≡ cond (among x others && not (among x ys)) (distinct_count (filter (λ x. among x others) ys) + 1) (distinct_count (filter (λ x. among x others) ys))
      step x ys =
          elim (among x others) as (λ b. among x others ≡ b → distinct_count (filter (λ x. among x others) ys ++ cond b (x ∷ []) []) ≡ cond (b && not (among x ys)) (distinct_count (filter (λ x. among x others) ys) + 1) (distinct_count (filter (λ x. among x others) ys))) [
            | true ↦ λ there.
                distinct_count-push (filter (λ x. among x others) ys) x
                ∙ ap (λ b. cond b (distinct_count (filter (λ x. among x others) ys)) (distinct_count (filter (λ x. among x others) ys) + 1)) (among-filter (λ x. among x others) x ys ∙ ap (λ b. among x ys && b) there)
                ∙ turned (among x ys)
            | false ↦ λ _. ap distinct_count (append-nil (filter (λ x. among x others) ys))
          ] refl where
            turned : (b : Bool) → cond (b && true) (distinct_count (filter (λ x. among x others) ys)) (distinct_count (filter (λ x. among x others) ys) + 1) ≡ cond (not b) (distinct_count (filter (λ x. among x others) ys) + 1) (distinct_count (filter (λ x. among x others) ys))
            turned true = refl
            turned false = refl

pub ruleset sharing = (shared_count-nil)
