-- The place of a party among those that take deliveries.
use Rattle.std.proofs.Common.{◌≡◌, ℕ, ◌+◌, ◌<◌, Bool, true, false, cond, not, nat_lt, List, [], ◌∷◌, length, Some, None, refl, arith}
use Rattle.std.specs.Prelude.{◌||◌, position}
use Rattle.std.specs.List.{list_any, position_or_len}
use Rattle.std.proofs.lemmas.Bool.Decides.{nat_tests}

module _ {A : Type 0} (p : A → Bool) where
  -- where one passes, the first that does is there
  pub place_within : (xs : List A) → list_any p xs ≡ true → position_or_len p xs < length xs
  place_within [] there = absurd cc
  place_within (x ∷ xs) there = by (p x) (list_any p xs) (position_or_len p xs) (place_within xs) there
    where
      by : (b c : Bool) (k : ℕ) → (c ≡ true → k < length xs) → b || c ≡ true → cond (not b) (1 + k) 0 < length (x ∷ xs)
      by true c k rest there = omega arith
      by false c k rest there = let h = rest there in omega arith

  pub place_is : (xs : List A) (place : ℕ) → position p xs ≡ Some place → place ≡ position_or_len p xs
  place_is xs place is = by (nat_lt (position_or_len p xs) (length xs)) is
    where
      by : (b : Bool) → cond b (Some (position_or_len p xs)) None ≡ Some place → place ≡ position_or_len p xs
      by true is = cc
      by false is = absurd cc

  pub place_there : (xs : List A) → list_any p xs ≡ true → position p xs ≡ None → ⊥
  place_there xs there none = by (nat_lt (position_or_len p xs) (length xs)) refl none
    where
      by : (b : Bool) → nat_lt (position_or_len p xs) (length xs) ≡ b → cond b (Some (position_or_len p xs)) None ≡ None → ⊥
      by true is none = absurd cc
      by false is none = let h = place_within xs there in grind (arith, nat_tests)

pub ruleset place_laws = (place_is, place_there)
