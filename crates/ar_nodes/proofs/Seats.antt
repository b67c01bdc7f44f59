-- Honest parties that changed in their places.
use Rattle.std.proofs.Common.{◌≡◌, ℕ, true, List, get_or, Option, Some, None, is_some, refl, sym}
use Rattle.std.specs.Prelude.{slice_set}
use Rattle.ar_nodes.specs.Acting.{ChangesAt, ChangesThere}
use Rattle.ar_nodes.specs.Finding.{honest_in}
use Rattle.ar_nodes.proofs.Spots.{honest_slot, honest_spot, honest_within}

changed : {X : Type 0} (parties : List (Option X)) (number : ℕ) (slot new : Option X) (changes : X → X → Type 0)
    → honest_in parties number ≡ slot → ChangesThere slot new changes → ChangesAt parties (slice_set parties number new) number changes
changed parties number (Some was) (Some is) changes there so = record { was = was; is = is; there = there; behind = refl; so = so }
changed parties number (Some was) None changes there so = absurd so
changed parties number None new changes there so = absurd so

-- who changed in its place changed there in the list
pub changed_at : {X : Type 0} (parties : List (Option X)) (number : ℕ) (slot new : Option X) (changes : X → X → Type 0)
    → is_some (honest_in parties number) ≡ true → get_or parties number slot ≡ slot → ChangesThere slot new changes → ChangesAt parties (slice_set parties number new) number changes
changed_at parties number slot new changes there is so = changed parties number slot new changes (honest_spot parties number slot slot there (sym is)) so

pub ruleset seats = (honest_within, honest_slot, changed_at)
