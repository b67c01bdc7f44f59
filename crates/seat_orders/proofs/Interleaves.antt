-- Lists that stand in an order at places of which each is taken once are interleaved there.
use Rattle.std.proofs.Common.{◌≡◌, ℕ, zero, suc, ◌+◌, ◌<◌, ◌≤◌, ◌==◌, Bool, true, false, List, [], ◌∷◌, length, Some, refl, sym, ap, ◌∙◌, arith}
use Rattle.std.specs.Prelude.{slice_get}
use Rattle.std.specs.List.{AllByRecursion, AllZip}
use Rattle.std.proofs.lemmas.Bool.{eq-eqb, ne_eqb}
use Rattle.ar_base.specs.Counting.{one_if}
use Rattle.ar_seats.specs.Numbers.{times, once_below}
use Rattle.ar_seats.specs.Totals.{total}
use Rattle.ar_seats.proofs.NumbersLemmas.{once_below-lt}
use Rattle.seat_orders.specs.Orders.{IsInterleaving, IsSubsequence}
use Rattle.seat_orders.specs.Carrying.{StandAt}

-- a number where it passes, else 0
abbrev counted : Bool → ℕ → ℕ
counted true n = n
counted false n = 0

counted-one : (b : Bool) → counted b 1 ≡ one_if b
counted-one true = refl
counted-one false = refl

counted-none : (b : Bool) → counted b 0 ≡ 0
counted-none true = refl
counted-none false = refl

counted-add : (b : Bool) (m n : ℕ) → counted b (m + n) ≡ counted b m + counted b n
counted-add true m n = refl
counted-add false m n = refl

-- how often x stands in a list, the first place of which has this number, where each place counts as much as its weight
abbrev weighed : ℕ → List ℕ → ℕ → (ℕ → ℕ) → ℕ
weighed x [] k weight = 0
weighed x (y ∷ ys) k weight = counted (x == y) (weight k) + weighed x ys (k + 1) weight

weighed-add : (x : ℕ) (ys : List ℕ) (k : ℕ) (one other : ℕ → ℕ) → weighed x ys k (λ p. one p + other p) ≡ weighed x ys k one + weighed x ys k other
weighed-add x [] k one other = refl
weighed-add x (y ∷ ys) k one other = omega (arith, counted-add (x == y) (one k) (other k), weighed-add x ys (k + 1) one other)

weighed-none : (x : ℕ) (ys : List ℕ) (k : ℕ) → weighed x ys k (λ p. 0) ≡ 0
weighed-none x [] k = refl
weighed-none x (y ∷ ys) k = omega (arith, counted-none (x == y), weighed-none x ys (k + 1))

-- where each place counts 1
weighed-all : (x : ℕ) (ys : List ℕ) (k : ℕ) (weight : ℕ → ℕ) → ((p : ℕ) → k ≤ p → p < k + length ys → weight p ≡ 1) → weighed x ys k weight ≡ times x ys
weighed-all x [] k weight each = refl
weighed-all x (y ∷ ys) k weight each =
    let here : counted (x == y) (weight k) ≡ one_if (x == y) = ap (counted (x == y)) (each k (omega arith) (omega arith)) ∙ counted-one (x == y) in
    let rest = weighed-all x ys (k + 1) weight (λ p le lt. each p (omega arith) (omega arith)) in
    omega (arith, here, rest)

-- where one place counts alone
at-here : (p q : ℕ) → q ≡ p → one_if (q == p) ≡ 1
at-here p q same = rw (eq-eqb q p same)

at-other : (p q : ℕ) → (q ≡ p → ⊥) → one_if (q == p) ≡ 0
at-other p q other = rw (ne_eqb q p other)

weighed-past : (x : ℕ) (ys : List ℕ) (k p : ℕ) → p < k → weighed x ys k (λ q. one_if (q == p)) ≡ 0
weighed-past x [] k p past = refl
weighed-past x (y ∷ ys) k p past =
    let none : counted (x == y) (one_if (k == p)) ≡ 0 = ap (counted (x == y)) (at-other p k (λ same. omega arith)) ∙ counted-none (x == y) in
    omega (arith, none, weighed-past x ys (k + 1) p (omega arith))

weighed-one : (x y : ℕ) (ys : List ℕ) (k i p : ℕ) → p ≡ k + i → slice_get ys i ≡ Some y → weighed x ys k (λ q. one_if (q == p)) ≡ one_if (x == y)
weighed-one x y [] k i p at there = absurd cc
weighed-one x y (z ∷ ys) k zero p at there =
    let same : z ≡ y = cc in
    let here : counted (x == z) (one_if (k == p)) ≡ one_if (x == z) = ap (counted (x == z)) (at-here p k (omega arith)) ∙ counted-one (x == z) in
    let is : one_if (x == z) ≡ one_if (x == y) = ap (λ w. one_if (x == w)) same in
    omega (arith, here, is, weighed-past x ys (k + 1) p (omega arith))
weighed-one x y (z ∷ ys) k (suc i) p at there =
    let none : counted (x == z) (one_if (k == p)) ≡ 0 = ap (counted (x == z)) (at-other p k (λ same. omega arith)) ∙ counted-none (x == z) in
    omega (arith, none, weighed-one x y ys (k + 1) i p (omega arith) there)

-- what stands at places weighs as the places do
times-stand : (x : ℕ) (order places items : List ℕ) → StandAt order places items → times x items ≡ weighed x order 0 (λ p. times p places)
times-stand x order [] [] stand = sym (weighed-none x order 0)
times-stand x order [] (item ∷ items) stand = absurd stand
times-stand x order (place ∷ places) [] stand = absurd stand
times-stand x order (place ∷ places) (item ∷ items) stand =
    let sum : weighed x order 0 (λ p. times p (place ∷ places)) ≡ weighed x order 0 (λ p. one_if (p == place)) + weighed x order 0 (λ p. times p places) =
    weighed-add x order 0 (λ p. one_if (p == place)) (λ p. times p places) in
    omega (arith, sum, weighed-one x item order 0 place place (omega arith) stand.0, times-stand x order places items stand.1)

times-lists : (x : ℕ) (order : List ℕ) (places items : List (List ℕ)) → AllZip (StandAt order) places items
    → total (times x) items ≡ weighed x order 0 (λ p. total (times p) places)
times-lists x order [] [] there = sym (weighed-none x order 0)
times-lists x order [] (i ∷ items) there = absurd there
times-lists x order (p ∷ places) [] there = absurd there
times-lists x order (p ∷ places) (i ∷ items) there =
    let sum : weighed x order 0 (λ q. total (times q) (p ∷ places)) ≡ weighed x order 0 (λ q. times q p) + weighed x order 0 (λ q. total (times q) places) =
    weighed-add x order 0 (λ q. times q p) (λ q. total (times q) places) in
    omega (arith, sum, times-stand x order p i there.0, times-lists x order places items there.1)

-- each place is taken once, and no number stands twice in the lists
pub interleaves : (order : List ℕ) (places lists : List (List ℕ)) → AllByRecursion (λ l. IsSubsequence l order) lists → AllZip (StandAt order) places lists
    → ((p : ℕ) → total (times p) places ≡ once_below (length order) p) → ((x : ℕ) → total (times x) lists ≤ 1) → IsInterleaving order lists
interleaves order places lists each there once apart =
    let same : (x : ℕ) → times x order ≡ total (times x) lists = λ x.
    sym (times-lists x order places lists there ∙ weighed-all x order 0 (λ p. total (times p) places) (λ p le lt. once p ∙ once_below-lt (length order) p (omega arith))) in
    record { each = each; same = same; once = λ x. omega (arith, same x, apart x) }
