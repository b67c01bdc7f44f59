-- Honest parties in their places, and one that is put into its place.
use Rattle.std.proofs.Common.{◌≡◌, ◌≢◌, ◌∙◌, ◌<◌, ℕ, zero, suc, true, List, [], ◌∷◌, length, get_or, Option, Some, is_some, refl, sym, ap, arith}
use Rattle.std.specs.Prelude.{slice_set}
use Rattle.ar_nodes.specs.Finding.{honest_in}

-- who is honest is within the list
pub honest_within : {X : Type 0} (parties : List (Option X)) (number : ℕ) → is_some (honest_in parties number) ≡ true → number < length parties
honest_within [] number there = absurd (cc)
honest_within (p ∷ more) zero there = omega arith
honest_within (p ∷ more) (suc number) there = let h = honest_within more number there in omega arith

-- and is what stands there
pub honest_spot : {X : Type 0} (parties : List (Option X)) (number : ℕ) (slot other : Option X) → is_some (honest_in parties number) ≡ true → slot ≡ get_or parties number other
    → honest_in parties number ≡ slot
honest_spot [] number slot other there is = absurd (cc)
honest_spot (p ∷ more) zero slot other there is = sym is
honest_spot (p ∷ more) (suc number) slot other there is = honest_spot more number slot other there is

-- so a place where somebody honest stands is one of somebody honest
pub honest_slot : {X : Type 0} (parties : List (Option X)) (number : ℕ) (slot : Option X) → is_some (honest_in parties number) ≡ true → get_or parties number slot ≡ slot
    → is_some slot ≡ true
honest_slot parties number slot there is = ap is_some (sym (honest_spot parties number slot slot there (sym is))) ∙ there

-- an honest party has a place
pub honest-below : {X : Type 0} (parties : List (Option X)) (n : ℕ) (x : X) → honest_in parties n ≡ Some x → n < length parties
honest-below parties n x there = honest_within parties n (ap is_some there)

-- in a place stands what was put there
pub put-there : {X : Type 0} (parties : List (Option X)) (n : ℕ) (slot : Option X) → n < length parties → honest_in (slice_set parties n slot) n ≡ slot
put-there [] n slot less = absurd (omega (arith, less))
put-there (p ∷ more) zero slot less = refl
put-there (p ∷ more) (suc n) slot less = put-there more n slot (omega (arith, less))

-- and in each other place what stood there
pub put-beside : {X : Type 0} (parties : List (Option X)) (n m : ℕ) (slot : Option X) → m ≢ n → honest_in (slice_set parties n slot) m ≡ honest_in parties m
put-beside [] n m slot other = refl
put-beside (p ∷ more) zero zero slot other = absurd (other refl)
put-beside (p ∷ more) zero (suc m) slot other = refl
put-beside (p ∷ more) (suc n) zero slot other = refl
put-beside (p ∷ more) (suc n) (suc m) slot other = put-beside more n m slot (λ same. other (ap suc same))

pub ruleset spots = (honest_within, honest_slot)
