-- What stands at the place where a search stops.
use Rattle.std.proofs.Common.{◌≡◌, ◌≤◌, ℕ, Bool, List, length, get_or, Some, None, cond, is_some, nat_lt, refl, sym, ap, ◌∙◌, arith}
use Rattle.std.specs.List.{find, position, position_or_len, slice_get}
use Rattle.std.specs.Prelude.{slice_set}
use Rattle.std.proofs.lemmas.Bool.Decides.{nat_tests}
use Rattle.std.proofs.lemmas.List.{set-get_or}
use Rattle.std.proofs.lemmas.List.Folds.{find_at}
use Rattle.std.proofs.lemmas.List.Quantifiers.{position-Some}
use Rattle.std.proofs.lemmas.Option.{cond_some, slice_get_cases, slice_get_past, slice_get_read}
use Rattle.owner_core.specs.State.{Owner}
use Rattle.ar_nodes.specs.Finding.{is_owner}

-- the place of the first that passes is that of what is found
found-there : {X : Type 0} (p : X → Bool) (xs : List X) (place : ℕ) (x : X) → position p xs ≡ Some place → get_or xs place x ≡ x → find p xs ≡ Some x
found-there p xs place x here is =
    let at = cond_some (nat_lt (position_or_len p xs) (length xs)) (position_or_len p xs) place here in
    find_at p xs ∙ ap (slice_get xs) at.1 ∙ slice_get_read xs (length xs) place x refl (position-Some p xs place x here).0 (sym is)

no-less : (a b : ℕ) → cond (nat_lt a b) (Some a) None ≡ None → b ≤ a
no-less a b none = grind (arith, nat_tests)

found-nowhere : {X : Type 0} (p : X → Bool) (xs : List X) → position p xs ≡ None → find p xs ≡ None
found-nowhere p xs here = find_at p xs ∙ slice_get_past xs (position_or_len p xs) (no-less (position_or_len p xs) (length xs) here)

-- there is one exactly where there is the other
some-at : {X : Type 0} (xs : List X) (i : ℕ) → is_some (cond (nat_lt i (length xs)) (Some i) None) ≡ is_some (slice_get xs i)
some-at xs i = grind (arith, nat_tests, slice_get_cases xs i)

found-known : {X : Type 0} (p : X → Bool) (xs : List X) → is_some (position p xs) ≡ is_some (find p xs)
found-known p xs = some-at xs (position_or_len p xs) ∙ sym (ap is_some (find_at p xs))

-- the same item changes nothing
pub item_kept : {X : Type 0} (xs : List X) (place : ℕ) (me new : X) → me ≡ get_or xs place me → new ≡ me → slice_set xs place new ≡ xs
item_kept xs place me new is same = ap (slice_set xs place) (same ∙ is) ∙ set-get_or xs place me

-- ---- owners

-- the owner at its place
pub owner_there : (owners : List Owner) (number place : ℕ) (owner : Owner) → position (is_owner number) owners ≡ Some place → get_or owners place owner ≡ owner
    → find (is_owner number) owners ≡ Some owner
owner_there owners number place owner here is = found-there (is_owner number) owners place owner here is

-- and none
pub owner_nowhere : (owners : List Owner) (number : ℕ) → position (is_owner number) owners ≡ None → find (is_owner number) owners ≡ None
owner_nowhere owners number here = found-nowhere (is_owner number) owners here

-- there is a place exactly where there is an owner
pub owner_known : (owners : List Owner) (number : ℕ) → is_some (position (is_owner number) owners) ≡ is_some (find (is_owner number) owners)
owner_known owners number = found-known (is_owner number) owners

pub ruleset found_owners = (owner_there, owner_nowhere)
