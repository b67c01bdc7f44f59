-- First places: where a search may begin, how it goes on, and what one more item changes.
use Rattle.std.proofs.Common.{◌≡◌, ◌∙◌, ap, sym, refl, arith, inl, inr, ℕ, ◌+◌, ◌<◌, ◌≤◌, List, [], ◌∷◌, ◌++◌, length, get_or, Bool, true, false, cond, not, nat_lt, Some, None}
use Rattle.std.specs.Prelude.{position}
use Rattle.std.specs.List.{position_or_len}
use Rattle.std.specs.Option.{option_or}
use Rattle.std.proofs.lemmas.Bool.{cases_lt, le-ltb, lt-ltb}
use Rattle.std.proofs.lemmas.Grind.{common_steps}
use Rattle.std.proofs.lemmas.List.Folds.{position_or_len_push}
use Rattle.std.proofs.lemmas.List.Sums.{fails_before_first, passes_at_first, position_or_len_is, prefix_len-le-length}
use Rattle.ar_base.proofs.Shown.{cond_none}
use Rattle.ar_base.proofs.Places.{not-less}

-- ---- what a place says

pub first-is : {T : Type 0} (p : T → Bool) (xs : List T) (k : ℕ) → position p xs ≡ Some k → position_or_len p xs ≡ k
first-is p xs k at = by (nat_lt (position_or_len p xs) (length xs)) at
  where
    by : (b : Bool) → cond b (Some (position_or_len p xs)) None ≡ Some k → position_or_len p xs ≡ k
    by true e = cc
    by false e = absurd cc

past-all : {T : Type 0} (p : T → Bool) (xs : List T) → position p xs ≡ None → length xs ≤ position_or_len p xs
past-all p xs none =
    let first = position_or_len p xs in
    let past : nat_lt first (length xs) ≡ false = cond_none (nat_lt first (length xs)) first none in
    omega (arith, not-less first (length xs) past)

pub nowhere : {T : Type 0} (p : T → Bool) (xs : List T) → length xs ≤ position_or_len p xs → position p xs ≡ None
nowhere p xs past =
    let out : nat_lt (position_or_len p xs) (length xs) ≡ false = le-ltb _ _ past in
    rw out refl

-- ---- a wider test

-- what passes a test that is wider stands no later
wider : {T : Type 0} (narrow wide : T → Bool) → ((x : T) → narrow x ≡ true → wide x ≡ true) → (xs : List T)
    → position_or_len wide xs ≤ position_or_len narrow xs
wider narrow wide only [] = omega arith
wider narrow wide only (x ∷ xs) = by (wide x) (narrow x) refl refl (wider narrow wide only xs)
  where
    by : (w n : Bool) → wide x ≡ w → narrow x ≡ n → position_or_len wide xs ≤ position_or_len narrow xs
        → position_or_len wide (x ∷ xs) ≤ position_or_len narrow (x ∷ xs)
    by true n w_is n_is rest = rw w_is (omega arith)
    by false true w_is n_is rest = let yes = only x n_is in absurd cc
    by false false w_is n_is rest = rw (w_is, n_is) (omega (arith, rest))

-- so a search may begin where the wider one found something
pub begins : {T : Type 0} (narrow wide : T → Bool) → ((x : T) → narrow x ≡ true → wide x ≡ true) → (xs : List T) (k : ℕ)
    → position wide xs ≡ Some k → k ≤ position_or_len narrow xs
begins narrow wide only xs k at = omega (arith, first-is wide xs k at, wider narrow wide only xs)

-- and finds nothing where the wider one did not
pub neither : {T : Type 0} (narrow wide : T → Bool) → ((x : T) → narrow x ≡ true → wide x ≡ true) → (xs : List T)
    → position wide xs ≡ None → position narrow xs ≡ None
neither narrow wide only xs none = nowhere narrow xs (omega (arith, past-all wide xs none, wider narrow wide only xs))

-- ---- a search

-- it goes on behind a place that fails
pub behind : {T : Type 0} (p : T → Bool) (xs : List T) (i : ℕ) (d : T) → i ≤ position_or_len p xs → i < length xs → p (get_or xs i d) ≡ false
    → i + 1 ≤ position_or_len p xs
behind p xs i d upto within fails =
    elim (cases_lt i (position_or_len p xs)) [
      | inl less ↦ omega (arith, less)
      | inr least ↦
          let here : position_or_len p xs ≡ i = omega (arith, upto, least) in
          let passes : p (get_or xs (position_or_len p xs) d) ≡ true = passes_at_first p xs d (omega (arith, here, within)) in
          let yes : p (get_or xs i d) ≡ true = sym (ap (λ k. p (get_or xs k d)) here) ∙ passes in
          absurd cc
    ]

-- and ends at the first that passes
pub found : {T : Type 0} (p : T → Bool) (xs : List T) (i : ℕ) (d : T) → i ≤ position_or_len p xs → i < length xs → p (get_or xs i d) ≡ true
    → position p xs ≡ Some i
found p xs i d upto within passes =
    let here : position_or_len p xs ≡ i =
    position_or_len_is p xs i d (omega (arith, within)) (λ k less. fails_before_first p xs k d (omega (arith, less, upto))) (λ _. passes) in
    let inside : nat_lt (position_or_len p xs) (length xs) ≡ true = lt-ltb _ _ (omega (arith, here, within)) in
    rw inside (ap (λ (k : ℕ). Some k) here)

-- ---- one more item

pub pushed : {T : Type 0} (p : T → Bool) (xs : List T) (y : T) → position p (xs ++ y ∷ []) ≡ option_or (position p xs) (cond (p y) (Some (length xs)) None)
pushed p xs y =
    let more = position_or_len_push p xs y in
    let within : position_or_len p xs ≤ length xs = prefix_len-le-length (λ x. not (p x)) xs in
    grind (arith, common_steps)
