-- How often numbers stand in lists.
use Rattle.std.proofs.Common.{◌≡◌, ◌≢◌, ℕ, zero, suc, ◌+◌, ◌<◌, ◌≤◌, ◌==◌, List, [], ◌∷◌, ◌++◌, length, slice_index_or, sym, refl, zero-add, arith}
use Rattle.std.proofs.lemmas.Bool.{lt-ltb, le-ltb, eq-eqb, ne_eqb}
use mathlib.Core.Logic.{dite}
use native.Mathlib.Decide.{dec_lt, ℕ_discrete}
use Rattle.ar_base.specs.Counting.{one_if}
use Rattle.ar_seats.specs.Numbers.{times, once_below, HasEachBelow}

pub times-append : (number : ℕ) (xs ys : List ℕ) → times number (xs ++ ys) ≡ times number xs + times number ys
times-append number [] ys = sym (zero-add (times number ys))
times-append number (x ∷ xs) ys = omega (arith, times-append number xs ys)

pub once_below-lt : (limit number : ℕ) → number < limit → once_below limit number ≡ 1
once_below-lt limit number below = rw (lt-ltb number limit below)

pub once_below-le : (limit number : ℕ) → limit ≤ number → once_below limit number ≡ 0
once_below-le limit number not_below = rw (le-ltb number limit not_below)

-- no number is handed out twice
pub once_below-le-1 : (limit number : ℕ) → once_below limit number ≤ 1
once_below-le-1 limit number = dite (dec_lt number limit) (λ below. omega (arith, once_below-lt limit number below)) (λ not_below. omega (arith, once_below-le limit number (omega arith)))

one_if_same : (a b : ℕ) → a ≡ b → one_if (a == b) ≡ 1
one_if_same a b same = rw (eq-eqb a b same)

none_if_other : (a b : ℕ) → a ≢ b → one_if (a == b) ≡ 0
none_if_other a b other = rw (ne_eqb a b other)

pub times-here : (x y : ℕ) → x ≡ y → times x (y ∷ []) ≡ 1
times-here x y same = omega (arith, one_if_same x y same)

-- the limit itself comes in where the limit rises by 1
pub once_below-suc : (limit number : ℕ) → once_below (limit + 1) number ≡ once_below limit number + times number (limit ∷ [])
once_below-suc limit number =
    dite (ℕ_discrete number limit)
    (λ same. omega (arith, one_if_same number limit same, once_below-lt (limit + 1) number (omega arith), once_below-le limit number (omega arith)))
    (λ other. dite (dec_lt number limit)
    (λ below. omega (arith, none_if_other number limit other, once_below-lt (limit + 1) number (omega arith), once_below-lt limit number below))
    (λ above. omega (arith, none_if_other number limit other, once_below-le (limit + 1) number (omega arith), once_below-le limit number (omega arith))))

-- how many numbers of a list are below the limit
abbrev many_below : ℕ → List ℕ → ℕ
many_below limit [] = 0
many_below limit (x ∷ xs) = once_below limit x + many_below limit xs

one_more_below : (limit number : ℕ) → once_below (limit + 1) number ≡ once_below limit number + one_if (limit == number)
one_more_below limit number =
    dite (ℕ_discrete limit number)
    (λ same. omega (arith, one_if_same limit number same, once_below-lt (limit + 1) number (omega arith), once_below-le limit number (omega arith)))
    (λ other. dite (dec_lt number limit)
    (λ below. omega (arith, none_if_other limit number other, once_below-lt (limit + 1) number (omega arith), once_below-lt limit number below))
    (λ above. omega (arith, none_if_other limit number other, once_below-le (limit + 1) number (omega arith), once_below-le limit number (omega arith))))

many_below-suc : (limit : ℕ) (xs : List ℕ) → many_below (limit + 1) xs ≡ many_below limit xs + times limit xs
many_below-suc limit [] = refl
many_below-suc limit (x ∷ xs) = omega (arith, many_below-suc limit xs, one_more_below limit x)

many_below-zero : (xs : List ℕ) → many_below 0 xs ≡ 0
many_below-zero [] = refl
many_below-zero (x ∷ xs) = omega (arith, many_below-zero xs, once_below-le 0 x (omega arith))

many_below_each : (limit : ℕ) (xs : List ℕ) → HasEachBelow limit xs → (n : ℕ) → n ≤ limit → many_below n xs ≡ n
many_below_each limit xs each zero le = many_below-zero xs
many_below_each limit xs each (suc n) le =
    let step : many_below (n + 1) xs ≡ many_below n xs + times n xs = many_below-suc n xs in
    let before = many_below_each limit xs each n (omega arith) in
    let one = each n in
    let is = once_below-lt limit n (omega arith) in
    let sum : many_below (n + 1) xs ≡ n + 1 = omega arith in
    let same : suc n ≡ n + 1 = omega arith in
    rw same sum

-- what stands in such a list is below the limit
pub standing-lt : (limit : ℕ) (xs : List ℕ) → HasEachBelow limit xs → (x : ℕ) → 0 < times x xs → x < limit
standing-lt limit xs each x stands = dite (dec_lt x limit) (λ below. below) (λ above. absurd (omega (arith, each x, once_below-le limit x (omega arith))))

length_below : (limit : ℕ) (xs : List ℕ) → ((x : ℕ) → 0 < times x xs → x < limit) → length xs ≡ many_below limit xs
length_below limit [] below = refl
length_below limit (x ∷ xs) below =
    let first = once_below-lt limit x (below x (omega (arith, one_if_same x x refl))) in
    let rest = length_below limit xs (λ y stands. below y (omega arith)) in
    omega arith

-- a list that has each number below the limit is as long as the limit
pub length_each : (limit : ℕ) (xs : List ℕ) → HasEachBelow limit xs → length xs ≡ limit
length_each limit xs each = omega (arith, length_below limit xs (standing-lt limit xs each), many_below_each limit xs each limit (omega arith))

pub times_of_place : (xs : List ℕ) (i x : ℕ) → i < length xs → slice_index_or xs i x ≡ x → 0 < times x xs
times_of_place [] i x within is = absurd (omega arith)
times_of_place (y ∷ ys) zero x within is = omega (arith, one_if_same x y (sym is))
times_of_place (y ∷ ys) (suc i) x within is = omega (arith, times_of_place ys i x (omega arith) is)

pub place_of_times : (xs : List ℕ) (x : ℕ) → 0 < times x xs → (i : ℕ) × (i < length xs) × (slice_index_or xs i x ≡ x)
place_of_times [] x stands = absurd (omega arith)
place_of_times (y ∷ ys) x stands =
    dite (ℕ_discrete x y)
    (λ same. (0, omega arith, sym same))
    (λ other. let there = place_of_times ys x (omega (arith, none_if_other x y other)) in (suc there.0, omega (arith, there.1), there.2))
