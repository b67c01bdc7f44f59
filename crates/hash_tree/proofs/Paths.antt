-- The path of a key, by how many entries there are.
use Rattle.std.proofs.Common.{◌≡◌, ℕ, zero, suc, ◌<◌, ◌≤◌, List, [], ◌∷◌, ◌++◌, length, get_or, refl, arith}
use Rattle.std.specs.FinMap.{entries}
use Rattle.hash_tree.specs.Entries.{Entry, Entries}
use Rattle.hash_tree.specs.Root.{by_count, digest_below}
use Rattle.hash_tree.specs.Path.{same_half, other_half, steps_below, bottom_below}
use Rattle.hash_tree.specs.declared.bottom.Bottom.TheVariants.{Empty, Other}
use Rattle.hash_tree.proofs.ByCount.{by_count-more}

by_count-few : {A : Type 0} (es : List Entry) (few more : A) → length es < 2 → by_count es few (λ _. few) more ≡ few
by_count-few [] few more h = refl
by_count-few (e ∷ []) few more h = refl
by_count-few (e ∷ f ∷ es) few more h = absurd (omega arith)

by_count-one : {A : Type 0} (es : List Entry) (none : A) (one : Entry → A) (more : A) (d : Entry) → 1 ≤ length es → length es < 2 → by_count es none one more ≡ one (get_or es 0 d)
by_count-one [] none one more d some h = absurd (omega arith)
by_count-one (e ∷ []) none one more d some h = refl
by_count-one (e ∷ f ∷ es) none one more d some h = absurd (omega arith)

by_count-none : {A : Type 0} (es : List Entry) (none : A) (one : Entry → A) (more : A) → length es < 1 → by_count es none one more ≡ none
by_count-none [] none one more h = refl
by_count-none (e ∷ es) none one more h = absurd (omega arith)

-- where at most one entry is left, there are no steps
pub steps-few : (left : ℕ) (key : List ℕ) (m : Entries) → length (entries m) < 2 → steps_below left key m ≡ []
unfolding steps_below
steps-few zero key m few = refl
steps-few (suc left) key m few = by_count-few (entries m) [] _ few

pub bottom-none : (left : ℕ) (key : List ℕ) (m : Entries) → length (entries m) < 1 → bottom_below left key m ≡ Empty
unfolding bottom_below
bottom-none zero key m none = by_count-none (entries m) _ _ _ none
bottom-none (suc left) key m none = by_count-none (entries m) _ _ _ none

pub bottom-one : (left : ℕ) (key : List ℕ) (m : Entries) (d : Entry) → 1 ≤ length (entries m) → length (entries m) < 2
    → bottom_below left key m ≡ Other (get_or (entries m) 0 d).0 (get_or (entries m) 0 d).1
unfolding bottom_below
bottom-one zero key m d some one = by_count-one (entries m) _ _ _ d some one
bottom-one (suc left) key m d some one = by_count-one (entries m) _ _ _ d some one

pub steps-more : (left : ℕ) (key : List ℕ) (m : Entries) → 2 ≤ length (entries m)
    → steps_below (suc left) key m ≡ steps_below left key (same_half left key m) ++ digest_below left (other_half left key m) ∷ []
unfolding steps_below
steps-more left key m several = by_count-more (entries m) _ _ _ several

pub bottom-more : (left : ℕ) (key : List ℕ) (m : Entries) → 2 ≤ length (entries m) → bottom_below (suc left) key m ≡ bottom_below left key (same_half left key m)
unfolding bottom_below
bottom-more left key m several = by_count-more (entries m) _ _ _ several

-- where all bits are decided, there are no steps
pub steps-end : (key : List ℕ) (m : Entries) → steps_below zero key m ≡ []
unfolding steps_below
steps-end key m = refl
