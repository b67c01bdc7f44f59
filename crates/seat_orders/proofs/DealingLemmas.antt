-- What is dealt is dealt once.
use Rattle.std.proofs.Common.{◌≡◌, ℕ, zero, suc, ◌+◌, ◌%◌, ◌<◌, ◌≤◌, ◌==◌, Bool, true, false, if◌then◌else◌, List, [], ◌∷◌, map, Some, refl, sym, ap, ◌∙◌, subst, arith}
use Rattle.std.specs.Prelude.{◌&&◌, slice_get}
use Rattle.std.specs.List.{range_with_len}
use Rattle.std.proofs.lemmas.Bool.{eq-eqb, ne_eqb}
use Rattle.std.proofs.lemmas.Bool.Decides.{nat_tests}
use Rattle.std.proofs.Math.Nat.{mod-lt}
use mathlib.Core.Logic.{dite}
use native.Mathlib.Decide.{dec_lt, ℕ_discrete}
use Rattle.ar_base.specs.Counting.{one_if}
use Rattle.ar_seats.specs.Numbers.{times}
use Rattle.ar_seats.specs.Totals.{total}
use Rattle.seat_orders.specs.Dealing.{dealt_from, dealt_lists}
use Rattle.seat_orders.specs.Orders.{IsInterleaving}

one_here : (x y : ℕ) → x ≡ y → one_if (x == y) ≡ 1
one_here x y same = rw (eq-eqb x y same)

none_there : (x y : ℕ) → (x ≡ y → ⊥) → one_if (x == y) ≡ 0
none_there x y other = rw (ne_eqb x y other)

both_pass : (a b : Bool) → a && b ≡ true → (a ≡ true) × (b ≡ true)
both_pass true true e = (refl, refl)
both_pass true false e = let no : false ≡ true = e in absurd cc
both_pass false b e = let no : false ≡ true = e in absurd cc

and_pass : (a b : Bool) → a ≡ true → b ≡ true → a && b ≡ true
and_pass true true e f = refl
and_pass true false e f = absurd cc
and_pass false b e f = absurd cc

-- ---- a number that is put in front where a test passes

none_if : (b : Bool) (x number : ℕ) (ns : List ℕ) → (x ≡ number → ⊥) → times x ns ≡ 0 → times x (if b then number ∷ ns else ns) ≡ 0
none_if true x number ns other none = omega (arith, none, none_there x number other)
none_if false x number ns other none = none

once_if : (b : Bool) (x number : ℕ) (ns : List ℕ) → (x ≡ number → times x ns ≡ 0) → times x ns ≤ 1 → times x (if b then number ∷ ns else ns) ≤ 1
once_if true x number ns none once = dite (ℕ_discrete x number)
    (λ same. omega (arith, one_here x number same, none same))
    (λ other. omega (arith, none_there x number other, once))
once_if false x number ns none once = once

first_or_rest : (b : Bool) (x number : ℕ) (ns : List ℕ) (P : Type 0) → (b ≡ true → x ≡ number → P) → (0 < times x ns → P) → 0 < times x (if b then number ∷ ns else ns) → P
first_or_rest true x number ns P here rest some_there = dite (ℕ_discrete x number)
    (λ same. here refl same)
    (λ other. rest (omega (arith, none_there x number other)))
first_or_rest false x number ns P here rest some_there = rest some_there

put_first : (b : Bool) (x number : ℕ) (ns : List ℕ) → b ≡ true → x ≡ number → 0 < times x (if b then number ∷ ns else ns)
put_first true x number ns e same = omega (arith, one_here x number same)
put_first false x number ns e same = absurd cc

put_behind : (b : Bool) (x number : ℕ) (ns : List ℕ) → 0 < times x ns → 0 < times x (if b then number ∷ ns else ns)
put_behind true x number ns some_there = omega (arith, some_there)
put_behind false x number ns some_there = some_there

module _ {D : Type 0} (workers : ℕ) (here : D → Bool) where
  -- no number is below the first
  dealt_below : (x number worker : ℕ) (things : List D) → x < number → times x (dealt_from workers here number worker things) ≡ 0
  dealt_below x number worker [] below = refl
  dealt_below x number worker (thing ∷ things) below =
      none_if (here thing && (number % workers == worker)) x number (dealt_from workers here (number + 1) worker things) (λ same. omega arith)
      (dealt_below x (number + 1) worker things (omega arith))

  -- none comes twice
  dealt_once : (x number worker : ℕ) (things : List D) → times x (dealt_from workers here number worker things) ≤ 1
  dealt_once x number worker [] = omega arith
  dealt_once x number worker (thing ∷ things) =
      once_if (here thing && (number % workers == worker)) x number (dealt_from workers here (number + 1) worker things)
      (λ same. dealt_below x (number + 1) worker things (omega arith)) (dealt_once x (number + 1) worker things)

  -- each is the worker's own
  dealt_own : (x number worker : ℕ) (things : List D) → 0 < times x (dealt_from workers here number worker things) → x % workers ≡ worker
  dealt_own x number worker [] some_there = absurd (omega arith)
  dealt_own x number worker (thing ∷ things) some_there =
      first_or_rest (here thing && (number % workers == worker)) x number (dealt_from workers here (number + 1) worker things) (x % workers ≡ worker)
      (λ passes same.
      let own : (number % workers == worker) ≡ true = (both_pass (here thing) (number % workers == worker) passes).1 in
      let is : number % workers ≡ worker = grind (arith, nat_tests) in
      ap (λ n. n % workers) same ∙ is)
      (dealt_own x (number + 1) worker things) some_there

  -- the workers from one on have a number once at most, and not at all where it is an earlier worker's
  dealt_apart : (x : ℕ) (things : List D) (worker more : ℕ)
      → (total (times x) (map (λ w. dealt_from workers here 0 w things) (range_with_len worker more)) ≤ 1)
      × (x % workers < worker → total (times x) (map (λ w. dealt_from workers here 0 w things) (range_with_len worker more)) ≡ 0)
  dealt_apart x things worker zero = (omega arith, λ earlier. refl)
  dealt_apart x things worker (suc more) =
      let rest = dealt_apart x things (worker + 1) more in
      let one = dealt_once x 0 worker things in
      dite (dec_lt 0 (times x (dealt_from workers here 0 worker things)))
      (λ some_there.
      let own = dealt_own x 0 worker things some_there in
      let none = rest.1 (omega arith) in
      (omega arith, λ earlier. absurd (omega arith)))
      (λ no. (omega (arith, rest.0), λ earlier. let none = rest.1 (omega arith) in omega arith))

  pub dealt_distinct : (x : ℕ) (things : List D) → total (times x) (dealt_lists workers here things) ≤ 1
  dealt_distinct x things = (dealt_apart x things 0 workers).0

  -- what goes here is with its worker
  dealt_there : (number i x worker : ℕ) (things : List D) (thing : D) → x ≡ number + i → slice_get things i ≡ Some thing → here thing ≡ true → x % workers ≡ worker
      → 0 < times x (dealt_from workers here number worker things)
  dealt_there number i x worker [] thing at there goes own = absurd cc
  dealt_there number zero x worker (first ∷ things) thing at there goes own =
      let same : first ≡ thing = cc in
      let at_number : x ≡ number = omega arith in
      let mine : (number % workers == worker) ≡ true = eq-eqb (number % workers) worker (ap (λ n. n % workers) (sym at_number) ∙ own) in
      put_first (here first && (number % workers == worker)) x number (dealt_from workers here (number + 1) worker things)
      (and_pass (here first) (number % workers == worker) (ap here same ∙ goes) mine) at_number
  dealt_there number (suc i) x worker (first ∷ things) thing at there goes own =
      put_behind (here first && (number % workers == worker)) x number (dealt_from workers here (number + 1) worker things)
      (dealt_there (number + 1) i x worker things thing (omega arith) there goes own)

  -- and each goes here
  dealt_goes : (number x worker : ℕ) (things : List D) → 0 < times x (dealt_from workers here number worker things)
      → (i : ℕ) × (thing : D) × (x ≡ number + i) × (slice_get things i ≡ Some thing) × (here thing ≡ true)
  dealt_goes number x worker [] some_there = absurd (omega arith)
  dealt_goes number x worker (first ∷ things) some_there =
      first_or_rest (here first && (number % workers == worker)) x number (dealt_from workers here (number + 1) worker things)
      ((i : ℕ) × (thing : D) × (x ≡ number + i) × (slice_get (first ∷ things) i ≡ Some thing) × (here thing ≡ true))
      (λ passes same. (0, first, omega arith, refl, (both_pass (here first) (number % workers == worker) passes).0))
      (λ more. let rest = dealt_goes (number + 1) x worker things more in (suc rest.0, rest.1, omega (arith, rest.2), rest.3, rest.4))
      some_there

  -- a list of the row is no more than the row
  row_has : (x : ℕ) (things : List D) (worker from more : ℕ) → from ≤ worker → worker < from + more
      → times x (dealt_from workers here 0 worker things) ≤ total (times x) (map (λ w. dealt_from workers here 0 w things) (range_with_len from more))
  row_has x things worker from zero le lt = absurd (omega arith)
  row_has x things worker from (suc more) le lt = dite (ℕ_discrete worker from)
      (λ same. omega (arith, ap (λ w. times x (dealt_from workers here 0 w things)) same))
      (λ other. omega (arith, row_has x things worker (from + 1) more (omega arith) (omega arith)))

  -- where a row has a number, one of its lists has it
  row_of : (x : ℕ) (things : List D) (from more : ℕ) → 0 < total (times x) (map (λ w. dealt_from workers here 0 w things) (range_with_len from more))
      → (worker : ℕ) × (0 < times x (dealt_from workers here 0 worker things))
  row_of x things from zero some_there = absurd (omega arith)
  row_of x things from (suc more) some_there = dite (dec_lt 0 (times x (dealt_from workers here 0 from things)))
      (λ first. (from, first))
      (λ no. row_of x things (from + 1) more (omega arith))

  pub dealt_each : (order : List ℕ) (things : List D) (x : ℕ) (thing : D) → 0 < workers → IsInterleaving order (dealt_lists workers here things)
      → slice_get things x ≡ Some thing → here thing ≡ true → times x order ≡ 1
  dealt_each order things x thing some_worker is there goes =
      let own = dealt_there 0 x x (x % workers) things thing (omega arith) there goes refl in
      let within = row_has x things (x % workers) 0 workers (omega arith) (omega (arith, mod-lt x some_worker)) in
      omega (arith, own, within, is.same x, is.once x)

  pub dealt_alone : (order : List ℕ) (things : List D) (x : ℕ) → IsInterleaving order (dealt_lists workers here things) → 0 < times x order
      → (thing : D) × (slice_get things x ≡ Some thing) × (here thing ≡ true)
  dealt_alone order things x is some_there =
      let row = row_of x things 0 workers (omega (arith, is.same x)) in
      let goes = dealt_goes 0 x row.0 things row.1 in
      let same : goes.0 ≡ x = omega (arith, goes.2) in
      (goes.1, subst (λ i. slice_get things i ≡ Some goes.1) same goes.3, goes.4)
