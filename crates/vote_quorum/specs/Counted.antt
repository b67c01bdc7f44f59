-- Numbers below a bound, such as the numbers of the logs, and how many of them have a property.
use Rattle.std.specs.Prelude.{◌≢◌, ℕ, zero, suc, ◌+◌, ◌<◌, ◌≤◌, Bool, List, All}
use Rattle.ar_base.specs.Counting.{one_if}
use Rattle.vote_quorum.specs.Numbers.{distinct_count}

-- how many numbers below n pass the test
abbrev pub count_below : ℕ → (ℕ → Bool) → ℕ
count_below zero test = zero
count_below (suc n) test = one_if (test n) + count_below n test

-- at least q of the numbers below n have the property: a list of such numbers has q distinct ones
pub record AtLeast (q n : ℕ) (P : ℕ → Type 0) : Type 0 where
  pub numbers : List ℕ
  pub many : q ≤ distinct_count numbers
  pub below : All (λ k. k < n) numbers
  pub each : All P numbers

-- a number below n, beside a and b, has both properties
pub record Shares (n : ℕ) (P Q : ℕ → Type 0) (a b : ℕ) : Type 0 where
  pub number : ℕ
  pub below : number < n
  pub one : P number
  pub other : Q number
  pub beside_a : number ≢ a
  pub beside_b : number ≢ b
