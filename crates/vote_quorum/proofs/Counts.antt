-- Numbers below a bound that pass a test, or are in a list; and what at least q of them are.
use Rattle.std.proofs.Common.{◌≡◌, ◌≢◌, ℕ, zero, suc, ◌+◌, ◌*◌, ◌<◌, ◌≤◌, List, [], ◌∷◌, length, get_or, refl, ap, ◌∙◌, arith, Bool, true, false, cond, eqb, ◌||◌}
use Rattle.std.specs.Prelude.{Contains, IsTrue}
use Rattle.std.specs.List.{AllByRecursion, filter}
use Rattle.std.proofs.lemmas.Bool.{eqb-true, eq-eqb, ne_eqb}
use Rattle.std.proofs.lemmas.List.Elements.{All-contains, All-from_recursion, recursion_from_All}
use Rattle.vote_quorum.specs.Numbers.{distinct_count, shared_count}
use Rattle.ar_base.specs.Counting.{one_if}
use Rattle.vote_quorum.specs.Counted.{count_below, AtLeast, Shares}
use Rattle.vote_quorum.proofs.Counting.{among, distinct_count-cons, distinct_count-nil, Contains-from_among}
use Rattle.vote_quorum.proofs.Below.{count_below-same, count_below-none, distinct_count-below}
use Rattle.vote_quorum.proofs.Shared.{shared_count-filter, three_shared, not_among}
use Rattle.vote_quorum.proofs.Beside.{one_beside}

-- ---- counts of one and of two tests

-- no more numbers pass than there are
pub count_below-le : (n : ℕ) (p : ℕ → Bool) → count_below n p ≤ n
count_below-le zero p = omega arith
count_below-le (suc n) p = elim (p n) as (λ b. one_if b + count_below n p ≤ suc n) [ true ↦ omega (arith, count_below-le n p) | false ↦ omega (arith, count_below-le n p) ]

-- a wider test passes more
pub count_below-wider : (n : ℕ) (p r : ℕ → Bool) → ((k : ℕ) → k < n → p k ≡ true → r k ≡ true) → count_below n p ≤ count_below n r
count_below-wider zero p r wider = omega arith
count_below-wider (suc n) p r wider =
    let rest : count_below n p ≤ count_below n r = count_below-wider n p r (λ k h. wider k (omega arith)) in
    elim (p n) as (λ b. p n ≡ b → one_if b + count_below n p ≤ one_if (r n) + count_below n r) [
      | true ↦ λ e. omega (arith, rest, ap one_if (wider n (omega arith) e))
      | false ↦ λ _. omega (arith, rest)
    ] refl

-- what passes one of two tests
pub count_below-either : (n : ℕ) (p r : ℕ → Bool) → count_below n (λ k. p k || r k) ≤ count_below n p + count_below n r
count_below-either zero p r = omega arith
count_below-either (suc n) p r =
    let rest : count_below n (λ k. p k || r k) ≤ count_below n p + count_below n r = count_below-either n p r in
    elim (p n) as (λ a. one_if (a || r n) + count_below n (λ k. p k || r k) ≤ (one_if a + count_below n p) + (one_if (r n) + count_below n r)) [
      | true ↦ omega (arith, rest)
      | false ↦ omega (arith, rest)
    ]

-- one number alone
count_below-one : (n x : ℕ) → count_below n (λ k. eqb x k) ≤ 1
count_below-one zero x = omega arith
count_below-one (suc n) x =
    elim (eqb x n) as (λ b. eqb x n ≡ b → one_if b + count_below n (λ k. eqb x k) ≤ 1) [
      | true ↦ λ e.
          let none : count_below n (λ k. eqb x k) ≡ 0 = count_below-same n (λ k. eqb x k) (λ _. false) (λ k h. ne_eqb x k (λ same. omega (arith, eqb-true x n e))) ∙ count_below-none n in
          omega (arith, none)
      | false ↦ λ _. omega (arith, count_below-one n x)
    ] refl

-- no more numbers stand in a list than it is long
pub count_below-among : (n : ℕ) (xs : List ℕ) → count_below n (λ k. among k xs) ≤ length xs
count_below-among n [] = omega (arith, count_below-none n)
count_below-among n (x ∷ xs) = omega (arith, count_below-either n (λ k. eqb x k) (λ k. among k xs), count_below-one n x, count_below-among n xs)

-- ---- lists of numbers

-- what a list shares with itself
pub shared_count-itself : (xs : List ℕ) → shared_count xs xs ≡ distinct_count xs
shared_count-itself xs = shared_count-filter xs xs ∙ ap distinct_count (all xs xs (λ k there. there)) where
  all : (ys zs : List ℕ) → ((k : ℕ) → among k zs ≡ true → among k ys ≡ true) → filter (λ x. among x ys) zs ≡ zs
  all ys [] within = refl
  all ys (z ∷ zs) within =
      let first : among z ys ≡ true = within z (ap (λ b. b || among z zs) (eq-eqb z z refl)) in
      ap (λ b. cond b (z ∷ filter (λ x. among x ys) zs) (filter (λ x. among x ys) zs)) first
      ∙ ap (λ rest. z ∷ rest) (all ys zs (λ k there. within k (later z k zs there))) where
        later : (z k : ℕ) (zs : List ℕ) → among k zs ≡ true → (eqb z k || among k zs) ≡ true
        later z k zs there = elim (eqb z k) as (λ b. (b || among k zs) ≡ true) [ true ↦ refl | false ↦ there ]

-- of three distinct numbers one is beside any two
pub beside_two : (xs : List ℕ) (a b : ℕ) → 3 ≤ distinct_count xs → (k : ℕ) × (Contains xs k × (k ≢ a) × (k ≢ b))
beside_two xs a b three =
    let found = one_beside xs xs a b (omega (arith, shared_count-itself xs)) in
    (found.0, (found.1.0, found.1.2, found.1.3))

-- ---- at least q numbers

-- the numbers below n that pass
abbrev passing : ℕ → (ℕ → Bool) → List ℕ
passing zero p = []
passing (suc n) p = cond (p n) (n ∷ passing n p) (passing n p)

passing-all : (P : ℕ → Type 0) (n : ℕ) (p : ℕ → Bool) → ((k : ℕ) → k < n → p k ≡ true → P k) → AllByRecursion P (passing n p)
passing-all P zero p each = tt
passing-all P (suc n) p each =
    let rest : AllByRecursion P (passing n p) = passing-all P n p (λ k h. each k (omega arith)) in
    elim (p n) as (λ b. p n ≡ b → AllByRecursion P (cond b (n ∷ passing n p) (passing n p))) [
      | true ↦ λ e. (each n (omega arith) e, rest)
      | false ↦ λ _. rest
    ] refl

distinct_count-passing : (n : ℕ) (p : ℕ → Bool) → distinct_count (passing n p) ≡ count_below n p
distinct_count-passing zero p = distinct_count-nil
distinct_count-passing (suc n) p =
    let rest : distinct_count (passing n p) ≡ count_below n p = distinct_count-passing n p in
    let new : among n (passing n p) ≡ false = not_among n (passing n p) (passing-all (λ y. eqb n y ≡ false) n p (λ k h _. ne_eqb n k (λ same. omega (arith, h, same)))) in
    elim (p n) as (λ b. distinct_count (cond b (n ∷ passing n p) (passing n p)) ≡ one_if b + count_below n p) [
      | true ↦ distinct_count-cons n (passing n p) ∙ ap (λ b. cond b (distinct_count (passing n p)) (distinct_count (passing n p) + 1)) new ∙ omega (arith, rest)
      | false ↦ omega (arith, rest)
    ]

-- at least q numbers pass exactly where q are counted
pub count_from_at_least : (q n : ℕ) (p : ℕ → Bool) → AtLeast q n (λ k. IsTrue (p k)) → q ≤ count_below n p
count_from_at_least q n p some =
    omega (
      arith,
      some.many,
      distinct_count-below n some.numbers (recursion_from_All (λ k. k < n) some.numbers some.below),
      count_below-wider n (λ k. among k some.numbers) p (λ k _ there. All-contains (λ k. IsTrue (p k)) some.numbers k some.each (Contains-from_among some.numbers k there)),
    )

pub at_least_from_count : (q n : ℕ) (p : ℕ → Bool) → q ≤ count_below n p → AtLeast q n (λ k. IsTrue (p k))
at_least_from_count q n p many = record {
  numbers = passing n p;
  many = omega (arith, many, distinct_count-passing n p);
  below = All-from_recursion (λ k. k < n) (passing n p) (passing-all (λ k. k < n) n p (λ k h _. h));
  each = All-from_recursion (λ k. IsTrue (p k)) (passing n p) (passing-all (λ k. IsTrue (p k)) n p (λ k _ e. e));
}

-- what at least q numbers are, at least q are of each wider property
pub at_least_wider : (q n : ℕ) (P Q : ℕ → Type 0) → ((k : ℕ) → k < n → P k → Q k) → AtLeast q n P → AtLeast q n Q
at_least_wider q n P Q wider some = record {
  numbers = some.numbers;
  many = some.many;
  below = some.below;
  each = λ k d h. wider (get_or some.numbers k d) (some.below k d h) (some.each k d h);
}

-- where 2q > n + 2, two quorums have a number beside any two
pub shares : (n q : ℕ) (P Q : ℕ → Type 0) → n + 2 < 2 * q → AtLeast q n P → AtLeast q n Q → (a b : ℕ) → Shares n P Q a b
shares n q P Q wide one other a b =
    let found = one_beside one.numbers other.numbers a b (three_shared n q one.numbers other.numbers wide one.below other.below one.many other.many) in
    record {
      number = found.0;
      below = All-contains (λ k. k < n) one.numbers found.0 one.below found.1.0;
      one = All-contains P one.numbers found.0 one.each found.1.0;
      other = All-contains Q other.numbers found.0 other.each found.1.1;
      beside_a = found.1.2;
      beside_b = found.1.3;
    }
