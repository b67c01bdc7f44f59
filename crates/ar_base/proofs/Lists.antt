-- Lists by their places, and what holds of each element of a list.
use Rattle.std.proofs.Common.{◌≡◌, ℕ, zero, suc, ◌<◌, List, [], ◌∷◌, ◌++◌, length, Some, refl, arith}
use Rattle.std.specs.Prelude.{slice_get}
use Rattle.std.specs.List.{AllByRecursion}

-- a list has an item at each place within it
pub has-item : {A : Type 0} (xs : List A) (k : ℕ) → k < length xs → (x : A) × (slice_get xs k ≡ Some x)
has-item [] k less = absurd (omega (arith, less))
has-item (x ∷ xs) zero less = (x, refl)
has-item (x ∷ xs) (suc k) less = has-item xs k (omega (arith, less))

-- and still has it with more behind it
pub get-more : {A : Type 0} (xs more : List A) (k : ℕ) (x : A) → slice_get xs k ≡ Some x → slice_get (xs ++ more) k ≡ Some x
get-more [] more k x e = absurd cc
get-more (y ∷ xs) more zero x e = e
get-more (y ∷ xs) more (suc k) x e = get-more xs more k x e

-- what holds of each element of two lists holds of each of one behind the other
pub both-lists : {A : Type 0} (P : A → Type 0) (xs ys : List A) → AllByRecursion P xs → AllByRecursion P ys → AllByRecursion P (xs ++ ys)
both-lists P [] ys one other = other
both-lists P (x ∷ xs) ys one other = (one.0, both-lists P xs ys one.1 other)

-- and the other way round
pub of-both-lists : {A : Type 0} (P : A → Type 0) (xs ys : List A) → AllByRecursion P (xs ++ ys) → AllByRecursion P xs × AllByRecursion P ys
of-both-lists P [] ys all = (tt, all)
of-both-lists P (x ∷ xs) ys all = let rest = of-both-lists P xs ys all.1 in ((all.0, rest.0), rest.1)
