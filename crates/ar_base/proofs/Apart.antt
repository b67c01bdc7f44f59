-- What follows where no two strings of a list collide, and where a string of joined lists stands.
use Rattle.std.proofs.Common.{◌≡◌, ℕ, List, [], ◌∷◌, ◌++◌, Bool, true, refl, ap, ◌∙◌, ◌⊎◌, inl, inr, ⊎_elim}
use Rattle.std.specs.Prelude.{IsTrue}
use Rattle.std.specs.List.{list_all}
use Rattle.std.specs.Str.{bytes_eq}
use Rattle.sha2.specs.Sha256.{sha256}
use Rattle.std.proofs.lemmas.Slice.Eq.{bytes_eq-Decides}
use Rattle.std.proofs.lemmas.Bool.{and_parts}
use Rattle.ar_base.specs.Apart.{are_apart, none_collide, IsIn, Apart}

pub in_front : (xs ys : List (List ℕ)) (x : List ℕ) → IsIn xs x → IsIn (xs ++ ys) x
in_front [] ys x h = absurd h
in_front (z ∷ xs) ys x (inl e) = inl e
in_front (z ∷ xs) ys x (inr h) = inr (in_front xs ys x h)

pub in_rest : (xs ys : List (List ℕ)) (x : List ℕ) → IsIn ys x → IsIn (xs ++ ys) x
in_rest [] ys x h = h
in_rest (z ∷ xs) ys x h = inr (in_rest xs ys x h)

pub in_both : (xs ys : List (List ℕ)) (x : List ℕ) → IsIn (xs ++ ys) x → IsIn xs x ⊎ IsIn ys x
in_both [] ys x h = inr h
in_both (z ∷ xs) ys x (inl e) = inl (inl e)
in_both (z ∷ xs) ys x (inr h) =
    ⊎_elim (λ (i : IsIn xs x). inl (inr i)) (λ (i : IsIn ys x). inr i) (in_both xs ys x h)

all_in : (p : List ℕ → Bool) (xs : List (List ℕ)) (x : List ℕ) → list_all p xs ≡ true → IsIn xs x → p x ≡ true
all_in p [] x h i = absurd i
all_in p (y ∷ ys) x h (inl e) = ap p e ∙ (and_parts _ _ h).0
all_in p (y ∷ ys) x h (inr i) = all_in p ys x (and_parts _ _ h).1 i

apart_strings : (x y : List ℕ) → are_apart x y ≡ true → sha256 x ≡ sha256 y → x ≡ y
apart_strings x y h e =
    let same : bytes_eq (sha256 x) (sha256 y) ≡ true = (bytes_eq-Decides (sha256 x) (sha256 y)).1 e in
    (bytes_eq-Decides x y).0 (rw same at h)

pub apart : (strings : List (List ℕ)) → IsTrue (none_collide strings) → Apart strings
apart strings h x y ix iy e = apart_strings x y (all_in _ strings y (all_in _ strings x h ix) iy) e

-- a test that each string of a list passes
pub all_from : (p : List ℕ → Bool) (xs : List (List ℕ)) → ((x : List ℕ) → IsIn xs x → p x ≡ true) → list_all p xs ≡ true
all_from p [] h = refl
all_from p (x ∷ xs) h = rw (h x (inl refl)) (all_from p xs (λ y i. h y (inr i)))

-- nor do two strings of a part of the list
pub none_collide-part : (part strings : List (List ℕ)) → ((x : List ℕ) → IsIn part x → IsIn strings x) → IsTrue (none_collide strings) → IsTrue (none_collide part)
none_collide-part part strings within h =
    all_from _ part (λ x ix. all_from _ part (λ y iy. all_in _ strings y (all_in _ strings x h (within x ix)) (within y iy)))
