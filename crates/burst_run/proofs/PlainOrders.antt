-- The order in which what goes to one party stands among all that is dealt: it is an interleaving of what each worker has.
use Rattle.std.proofs.Common.{◌≡◌, ℕ, zero, suc, ◌+◌, ◌%◌, ◌<◌, ◌≤◌, ◌==◌, Bool, true, false, if◌then◌else◌, inl, inr, List, [], ◌∷◌, map, refl, ap, ◌∙◌, arith}
use Rattle.std.specs.Prelude.{◌&&◌}
use Rattle.std.specs.List.{AllByRecursion, range_with_len}
use Rattle.std.proofs.Math.Nat.{mod-lt}
use Rattle.std.proofs.lemmas.Bool.{eq-eqb, ne_eqb}
use mathlib.Core.Logic.{dite}
use native.Mathlib.Decide.{ℕ_discrete}
use Rattle.ar_base.specs.Counting.{one_if}
use Rattle.ar_seats.specs.Numbers.{times}
use Rattle.ar_seats.specs.Totals.{total}
use Rattle.seat_orders.specs.Dealing.{dealt_from, dealt_lists}
use Rattle.seat_orders.specs.Orders.{IsInterleaving, IsSubsequence}

-- lists to one of which, that of this place, a number is put in front, where it is to be
abbrev put_at : (place : ℕ) (goes : Bool) (number : ℕ) → (ℕ → List ℕ) → ℕ → List ℕ
put_at place goes number rest worker = if goes && (place == worker) then number ∷ rest worker else rest worker

-- ---- how often a number stands in all of them

none_put : (place : ℕ) (goes : Bool) (number x : ℕ) (rest : ℕ → List ℕ) (from more : ℕ) → place < from
    → total (times x) (map (put_at place goes number rest) (range_with_len from more)) ≡ total (times x) (map rest (range_with_len from more))
none_put place goes number x rest from zero before = refl
none_put place goes number x rest from (suc more) before =
    let later = none_put place goes number x rest (from + 1) more (omega arith) in
    let here : put_at place goes number rest from ≡ rest from = other goes (place == from) (ne_eqb place from (λ same. omega arith)) in
    omega (arith, ap (times x) here, later)
  where
    other : (a b : Bool) → b ≡ false → (if a && b then number ∷ rest from else rest from) ≡ rest from
    other true b is = ap (λ c. if c then number ∷ rest from else rest from) is
    other false b is = refl

some_put : (place number x : ℕ) (rest : ℕ → List ℕ) (from more : ℕ) → from ≤ place → place < from + more
    → total (times x) (map (put_at place true number rest) (range_with_len from more)) ≡ one_if (x == number) + total (times x) (map rest (range_with_len from more))
some_put place number x rest from zero low high = absurd (omega arith)
some_put place number x rest from (suc more) low high = dite (ℕ_discrete place from)
    (λ same.
    let here : put_at place true number rest from ≡ number ∷ rest from = ap (λ c. if c then number ∷ rest from else rest from) (eq-eqb place from same) in
    omega (arith, ap (times x) here, none_put place true number x rest (from + 1) more (omega arith)))
    (λ other.
    let here : put_at place true number rest from ≡ rest from = ap (λ c. if c then number ∷ rest from else rest from) (ne_eqb place from other) in
    omega (arith, ap (times x) here, some_put place number x rest (from + 1) more (omega arith) (omega arith)))

module _ {D : Type 0} (here : D → Bool) where
  -- the numbers of what goes there, the first of all having this one
  abbrev pub plain_from : ℕ → List D → List ℕ
  plain_from number [] = []
  plain_from number (thing ∷ things) = if here thing then number ∷ plain_from (number + 1) things else plain_from (number + 1) things

  abbrev pub plain_order : List D → List ℕ
  plain_order things = plain_from 0 things

  in_plain : (a b : Bool) (number : ℕ) (xs ys : List ℕ) → IsSubsequence xs ys → IsSubsequence (if a && b then number ∷ xs else xs) (if a then number ∷ ys else ys)
  in_plain true true number xs ys rest = inr (xs, refl, rest)
  in_plain true false number xs ys rest = inl rest
  in_plain false b number xs ys rest = rest

  plain_has : (workers number worker : ℕ) (things : List D) → IsSubsequence (dealt_from workers here number worker things) (plain_from number things)
  plain_has workers number worker [] = refl
  plain_has workers number worker (thing ∷ things) =
      in_plain (here thing) (number % workers == worker) number (dealt_from workers here (number + 1) worker things) (plain_from (number + 1) things)
      (plain_has workers (number + 1) worker things)

  plain_each : (workers : ℕ) (things : List D) (from more : ℕ)
      → AllByRecursion (λ l. IsSubsequence l (plain_from 0 things)) (map (λ worker. dealt_from workers here 0 worker things) (range_with_len from more))
  plain_each workers things from zero = tt
  plain_each workers things from (suc more) = (plain_has workers 0 from things, plain_each workers things (from + 1) more)

  none_at : (workers x from more number : ℕ) → 0 ≡ total (times x) (map (λ worker. dealt_from workers here number worker []) (range_with_len from more))
  none_at workers x from zero number = refl
  none_at workers x from (suc more) number = omega (arith, none_at workers x (from + 1) more number)

  plain_same : (workers : ℕ) → 0 < workers → (x number : ℕ) (things : List D)
      → times x (plain_from number things) ≡ total (times x) (map (λ worker. dealt_from workers here number worker things) (range_with_len 0 workers))
  plain_same workers some x number [] = none_at workers x 0 workers number
  plain_same workers some x number (thing ∷ things) =
      by (here thing) (λ worker. dealt_from workers here (number + 1) worker things) (plain_from (number + 1) things) (plain_same workers some x (number + 1) things)
    where
      nothing : (rest : ℕ → List ℕ) (from more : ℕ)
          → total (times x) (map rest (range_with_len from more)) ≡ total (times x) (map (put_at (number % workers) false number rest) (range_with_len from more))
      nothing rest from zero = refl
      nothing rest from (suc more) = ap (λ n. times x (rest from) + n) (nothing rest (from + 1) more)

      by : (goes : Bool) (rest : ℕ → List ℕ) (plain : List ℕ) → times x plain ≡ total (times x) (map rest (range_with_len 0 workers))
          → times x (if goes then number ∷ plain else plain) ≡ total (times x) (map (put_at (number % workers) goes number rest) (range_with_len 0 workers))
      by true rest plain same = omega (arith, same, some_put (number % workers) number x rest 0 workers (omega arith) (omega (arith, mod-lt number some)))
      by false rest plain same = same ∙ nothing rest 0 workers

  plain_below : (x number : ℕ) (things : List D) → x < number → times x (plain_from number things) ≡ 0
  plain_below x number [] below = refl
  plain_below x number (thing ∷ things) below = by (here thing) (plain_from (number + 1) things) (plain_below x (number + 1) things (omega arith))
    where
      by : (goes : Bool) (plain : List ℕ) → times x plain ≡ 0 → times x (if goes then number ∷ plain else plain) ≡ 0
      by true plain none = omega (arith, none, ap one_if (ne_eqb x number (λ same. omega arith)))
      by false plain none = none

  plain_once : (x number : ℕ) (things : List D) → times x (plain_from number things) ≤ 1
  plain_once x number [] = omega arith
  plain_once x number (thing ∷ things) = by (here thing) (plain_from (number + 1) things) (plain_once x (number + 1) things) (plain_below x (number + 1) things)
    where
      by : (goes : Bool) (plain : List ℕ) → times x plain ≤ 1 → (x < number + 1 → times x plain ≡ 0) → times x (if goes then number ∷ plain else plain) ≤ 1
      by true plain once below = dite (ℕ_discrete x number)
          (λ same. omega (arith, below (omega arith), ap one_if (eq-eqb x number same)))
          (λ other. omega (arith, once, ap one_if (ne_eqb x number other)))
      by false plain once below = once

  pub plain_interleaves : (workers : ℕ) → 0 < workers → (things : List D) → IsInterleaving (plain_order things) (dealt_lists workers here things)
  plain_interleaves workers some things = record {
    each = plain_each workers things 0 workers;
    same = λ x. plain_same workers some x 0 things;
    once = λ x. plain_once x 0 things;
  }
