-- Totals over the views of seats, where one view changes, is split, or takes in another.
use Rattle.std.proofs.Common.{◌≡◌, ◌≢◌, ℕ, zero, suc, ◌+◌, ◌<◌, ◌≤◌, List, [], ◌∷◌, ◌++◌, set, ap, sym, refl, zero-add, arith}
use mathlib.Core.Option.{some, some-injective, some-ne-none}
use mathlib.Core.Logic.{dite}
use native.Mathlib.Decide.{dec_lt}
use lib.ListN.{get_elem?}
use Rattle.ar_seats.specs.Totals.{total}

module _ {V : Type 0} (f : V → ℕ) where
  -- one view changes
  pub total-set : (views : List V) (i : ℕ) (v w : V) → get_elem? views i ≡ some v → total f (set views i w) + f v ≡ total f views + f w
  total-set [] i v w at = absurd (some-ne-none v (sym at))
  total-set (x ∷ xs) zero v w at = omega (arith, ap f (some-injective x v at))
  total-set (x ∷ xs) (suc i) v w at = omega (arith, total-set xs i v w at)

  pub total-append : (views more : List V) → total f (views ++ more) ≡ total f views + total f more
  total-append [] more = sym (zero-add (total f more))
  total-append (x ∷ xs) more = omega (arith, total-append xs more)

  -- one view is split in two
  pub total_split : (views : List V) (i : ℕ) (v left right : V) → get_elem? views i ≡ some v
      → total f (set views i left ++ right ∷ []) + f v ≡ total f views + (f left + f right)
  total_split views i v left right at = omega (arith, total-set views i v left at, total-append (set views i left) (right ∷ []))

  -- one view takes in another, which is spent
  pub total_join : (views : List V) (i j : ℕ) (v w both spent : V) → get_elem? views i ≡ some v → get_elem? (set views i both) j ≡ some w
      → total f (set (set views i both) j spent) + (f v + f w) ≡ total f views + (f both + f spent)
  total_join views i j v w both spent at there = omega (arith, total-set views i v both at, total-set (set views i both) j w spent there)

  -- no view has more than all
  pub one-le-total : (views : List V) (i : ℕ) (v : V) → get_elem? views i ≡ some v → f v ≤ total f views
  one-le-total [] i v at = absurd (some-ne-none v (sym at))
  one-le-total (x ∷ xs) zero v at = omega (arith, ap f (some-injective x v at))
  one-le-total (x ∷ xs) (suc i) v at = omega (arith, one-le-total xs i v at)

  -- no two views have more than all
  pub two-le-total : (views : List V) (i j : ℕ) (v w : V) → i ≢ j → get_elem? views i ≡ some v → get_elem? views j ≡ some w → f v + f w ≤ total f views
  two-le-total [] i j v w apart at there = absurd (some-ne-none v (sym at))
  two-le-total (x ∷ xs) zero zero v w apart at there = absurd (apart refl)
  two-le-total (x ∷ xs) zero (suc j) v w apart at there = omega (arith, ap f (some-injective x v at), one-le-total xs j w there)
  two-le-total (x ∷ xs) (suc i) zero v w apart at there = omega (arith, ap f (some-injective x w there), one-le-total xs i v at)
  two-le-total (x ∷ xs) (suc i) (suc j) v w apart at there = omega (arith, two-le-total xs i j v w (λ same. apart (ap suc same)) at there)

  -- the numbers of no view add up to 0
  pub total_nothing : (views : List V) → ((i : ℕ) (v : V) → get_elem? views i ≡ some v → f v ≡ 0) → total f views ≡ 0
  total_nothing [] none = refl
  total_nothing (x ∷ xs) none = omega (arith, none 0 x refl, total_nothing xs (λ i v at. none (suc i) v at))

  -- where there is some of it, a view has some
  pub one_of_total : (views : List V) → 0 < total f views → (i : ℕ) × (v : V) × (get_elem? views i ≡ some v) × (0 < f v)
  one_of_total [] some_there = absurd (omega arith)
  one_of_total (x ∷ xs) some_there =
      dite (dec_lt 0 (f x))
      (λ here. (0, x, refl, here))
      (λ none. let there = one_of_total xs (omega arith) in (suc there.0, there.1, there.2, there.3))

module _ {V : Type 0} (share f : V → ℕ) where
  -- where no view has more of the one than of the other, nor have all
  pub total_le : (views : List V) → ((i : ℕ) (v : V) → get_elem? views i ≡ some v → f v ≤ share v) → total f views ≤ total share views
  total_le [] each = omega arith
  total_le (x ∷ xs) each = omega (arith, each 0 x refl, total_le xs (λ i v at. each (suc i) v at))

  -- a view with all shares has all, where a view without a share has nothing
  pub total_owner : (views : List V) (i : ℕ) (v : V) → get_elem? views i ≡ some v → total share views ≡ share v
      → ((j : ℕ) (w : V) → get_elem? views j ≡ some w → share w ≡ 0 → f w ≡ 0) → total f views ≡ f v
  total_owner [] i v at whole idle = absurd (some-ne-none v (sym at))
  total_owner (x ∷ xs) zero v at whole idle =
      let same = some-injective x v at in
      let rest : total f xs ≡ 0 = total_nothing f xs (λ j w there. idle (suc j) w there (omega (arith, ap share same, one-le-total share xs j w there))) in
      omega (arith, ap f same)
  total_owner (x ∷ xs) (suc i) v at whole idle =
      let less = one-le-total share xs i v at in
      let first : f x ≡ 0 = idle 0 x refl (omega arith) in
      let rest = total_owner xs i v at (omega arith) (λ j w there. idle (suc j) w there) in
      omega arith
