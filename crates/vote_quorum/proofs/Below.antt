-- How many numbers below a bound pass a test, and so how many distinct numbers a list of them has.
use Rattle.std.proofs.Common.{◌≡◌, ℕ, zero, suc, ◌+◌, ◌<◌, ◌≤◌, List, [], ◌∷◌, refl, sym, ap, ◌∙◌, ⊎_elim, arith, Bool, true, false, cond, eqb, ◌&&◌, ◌||◌}
use Rattle.std.specs.List.{AllByRecursion}
use Rattle.std.proofs.lemmas.Bool.{cases_eq, eq-eqb, ne_eqb}
use Rattle.ar_base.specs.Counting.{one_if}
use Rattle.vote_quorum.specs.Counted.{count_below}
use Rattle.vote_quorum.specs.Numbers.{distinct_count}
use Rattle.vote_quorum.proofs.Counting.{among, distinct_count-cons, distinct_count-nil}

-- tests that agree below n pass as many
pub count_below-same : (n : ℕ) (p r : ℕ → Bool) → ((q : ℕ) → q < n → p q ≡ r q) → count_below n p ≡ count_below n r
count_below-same zero p r same = refl
count_below-same (suc n) p r same =
    let here : one_if (p n) ≡ one_if (r n) = ap one_if (same n (omega arith)) in
    let rest : count_below n p ≡ count_below n r = count_below-same n p r (λ q h. same q (omega arith)) in
    cc

-- one more number, below n
pub count_below-insert : (n : ℕ) (p : ℕ → Bool) (k : ℕ) → k < n → count_below n (λ q. eqb k q || p q) ≡ cond (p k) (count_below n p) (count_below n p + 1)
count_below-insert zero p k h = absurd (omega arith)
count_below-insert (suc n) p k h =
    ⊎_elim
    (λ (at : k ≡ n).
    let first : one_if (eqb k n || p n) ≡ 1 = ap (λ b. one_if (b || p n)) (eq-eqb k n at) in
    let rest : count_below n (λ q. eqb k q || p q) ≡ count_below n p =
    count_below-same n _ p (λ q l. ap (λ b. b || p q) (ne_eqb k q (λ e. omega arith))) in
    let same : p k ≡ p n = ap p at in
    elim (p n) as (λ b. p k ≡ b → one_if (eqb k n || p n) + count_below n (λ q. eqb k q || p q) ≡ cond (p k) (one_if b + count_below n p) (one_if b + count_below n p + 1)) [
      | true ↦ λ e. rw e (omega (arith, first, rest))
      | false ↦ λ e. rw e (omega (arith, first, rest))
    ] same)
    (λ (off : k ≡ n → ⊥).
    let first : one_if (eqb k n || p n) ≡ one_if (p n) = ap (λ b. one_if (b || p n)) (ne_eqb k n off) in
    let rest : count_below n (λ q. eqb k q || p q) ≡ cond (p k) (count_below n p) (count_below n p + 1) =
    count_below-insert n p k (omega (arith, off)) in
    elim (p k) as (λ b. count_below n (λ q. eqb k q || p q) ≡ cond b (count_below n p) (count_below n p + 1) → one_if (eqb k n || p n) + count_below n (λ q. eqb k q || p q) ≡ cond b (one_if (p n) + count_below n p) (one_if (p n) + count_below n p + 1)) [
      | true ↦ λ e. omega (arith, first, e)
      | false ↦ λ e. omega (arith, first, e)
    ] rest)
    (cases_eq k n)

-- a test that passes nothing
pub count_below-none : (n : ℕ) → count_below n (λ _. false) ≡ 0
count_below-none zero = refl
count_below-none (suc n) = omega (arith, count_below-none n)

-- the distinct numbers of a list are those below the bound that stand in it
pub distinct_count-below : (n : ℕ) (ks : List ℕ) → AllByRecursion (λ k. k < n) ks → distinct_count ks ≡ count_below n (λ q. among q ks)
distinct_count-below n [] all = distinct_count-nil ∙ sym (count_below-none n)
distinct_count-below n (k ∷ ks) all =
    let rest : distinct_count ks ≡ count_below n (λ q. among q ks) = distinct_count-below n ks all.1 in
    distinct_count-cons k ks
    ∙ ap (λ m. cond (among k ks) m (m + 1)) rest
    ∙ sym (count_below-insert n (λ q. among q ks) k all.0)

-- of two tests that pass many, many numbers pass both
pub count_below-both : (n : ℕ) (p r : ℕ → Bool) → count_below n p + count_below n r ≤ n + count_below n (λ q. p q && r q)
count_below-both zero p r = omega arith
count_below-both (suc n) p r =
    let rest : count_below n p + count_below n r ≤ n + count_below n (λ q. p q && r q) = count_below-both n p r in
    elim (p n) as (λ a. (one_if a + count_below n p) + (one_if (r n) + count_below n r) ≤ suc n + (one_if (a && r n) + count_below n (λ q. p q && r q))) [
      | true ↦ omega arith
      | false ↦ elim (r n) as (λ b. (0 + count_below n p) + (one_if b + count_below n r) ≤ suc n + (0 + count_below n (λ q. p q && r q))) [ true ↦ omega arith | false ↦ omega arith ]
    ]
