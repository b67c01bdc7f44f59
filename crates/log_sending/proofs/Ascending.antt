-- The logs of a message's votes and statuses ascend.
use Rattle.std.proofs.Common.{ℕ, ◌+◌, ◌<◌, ◌≤◌, List, [], ◌∷◌, length, arith}
use Rattle.std.specs.Prelude.{AllPairs, map}
use Rattle.std.specs.List.{AllByRecursion}
use Rattle.std.specs.List.Sorted.{IsStrictlyIncreasing}
use Rattle.std.proofs.lemmas.List.{get_or-map, length-map}
use Rattle.std.proofs.lemmas.List.Elements.{All-from_recursion}
use Rattle.std.proofs.lemmas.List.Kept.{AllPairs-cons}
use Rattle.ar_bytes.specs.Ascending.{Ascend}

-- each number is at least the least
from-least : {A : Type 0} (number : A → ℕ) (fits : A → Type 0) (least low : ℕ) (xs : List A) → low ≤ least → Ascend number fits least xs
    → AllByRecursion (λ x. low ≤ number x) xs
from-least number fits least low [] less asc = tt
from-least number fits least low (x ∷ xs) less asc =
    (omega (arith, less, asc.0), from-least number fits (number x + 1) low xs (omega (arith, less, asc.0)) asc.2)

further : {A : Type 0} (number : A → ℕ) (n : ℕ) (xs : List A) → AllByRecursion (λ x. n + 1 ≤ number x) xs → AllByRecursion (λ x. n < number x) xs
further number n [] all = tt
further number n (x ∷ xs) all = (omega (arith, all.0), further number n xs all.1)

-- each number is below the later ones
pub below-later : {A : Type 0} (number : A → ℕ) (fits : A → Type 0) (least : ℕ) (xs : List A) → Ascend number fits least xs
    → AllPairs (λ x y. number x < number y) xs
below-later number fits least [] asc = λ i j d before within. absurd (omega (arith, within))
below-later number fits least (x ∷ xs) asc =
    AllPairs-cons (λ x y. number x < number y) x xs
    (All-from_recursion (λ y. number x < number y) xs (further number (number x) xs (from-least number fits (number x + 1) (number x + 1) xs (omega arith) asc.2)))
    (below-later number fits (number x + 1) xs asc.2)

-- the numbers rise
pub rises : {A : Type 0} (number : A → ℕ) (fits : A → Type 0) (least : ℕ) (xs : List A) → Ascend number fits least xs
    → IsStrictlyIncreasing (map number xs)
rises number fits least [] asc k within = absurd (omega (arith, within))
rises {A} number fits least (x ∷ xs) asc k within =
    let all : List A = x ∷ xs in
    let many = length-map all number in
    let next : k + 1 < length all = omega (arith, many, within) in
    let one = get_or-map number all k x 0 (omega (arith, next)) in
    let other = get_or-map number all (k + 1) x 0 next in
    omega (arith, one, other, below-later number fits least all asc k (k + 1) x (omega arith) next)

-- what each entry is
pub each-fits : {A : Type 0} (number : A → ℕ) (fits : A → Type 0) (least : ℕ) (xs : List A) → Ascend number fits least xs → AllByRecursion fits xs
each-fits number fits least [] asc = tt
each-fits number fits least (x ∷ xs) asc = (asc.1, each-fits number fits (number x + 1) xs asc.2)
