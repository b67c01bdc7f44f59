-- Lists with some items left out, and items that stand at places.
use Rattle.std.proofs.Common.{◌≡◌, inl, inr, ℕ, zero, suc, List, [], ◌∷◌, ◌++◌, length, map, Some, refl, sym, ap, subst}
use Rattle.std.specs.Prelude.{slice_get}
use Rattle.ar_base.proofs.Lists.{get-more}
use Rattle.seat_orders.specs.Orders.{IsSubsequence}
use Rattle.seat_orders.specs.Carrying.{StandAt}

module _ {A : Type 0} where
  pub subsequence_none : (ys : List A) → IsSubsequence [] ys
  subsequence_none [] = refl
  subsequence_none (y ∷ ys) = inl (subsequence_none ys)

  pub subsequence_more : (xs ys zs : List A) → IsSubsequence xs ys → IsSubsequence xs (ys ++ zs)
  subsequence_more xs [] zs is = subst (λ l. IsSubsequence l zs) (sym is) (subsequence_none zs)
  subsequence_more xs (y ∷ ys) zs (inl is) = inl (subsequence_more xs ys zs is)
  subsequence_more xs (y ∷ ys) zs (inr is) = inr (is.0, is.1, subsequence_more is.0 ys zs is.2)

  pub subsequence_last : (xs ys : List A) (x : A) → IsSubsequence xs ys → IsSubsequence (xs ++ x ∷ []) (ys ++ x ∷ [])
  subsequence_last xs [] x is = inr ([], ap (λ l. l ++ x ∷ []) is, refl)
  subsequence_last xs (y ∷ ys) x (inl is) = inl (subsequence_last xs ys x is)
  subsequence_last xs (y ∷ ys) x (inr is) = inr (is.0 ++ x ∷ [], ap (λ l. l ++ x ∷ []) is.1, subsequence_last is.0 ys x is.2)

  pub get_last : (xs : List A) (x : A) → slice_get (xs ++ x ∷ []) (length xs) ≡ Some x
  get_last [] x = refl
  get_last (y ∷ ys) x = get_last ys x

  pub stand_more : (list more : List A) (places : List ℕ) (items : List A) → StandAt list places items → StandAt (list ++ more) places items
  stand_more list more [] [] stand = tt
  stand_more list more [] (item ∷ items) stand = stand
  stand_more list more (place ∷ places) [] stand = stand
  stand_more list more (place ∷ places) (item ∷ items) stand = (get-more list more place item stand.0, stand_more list more places items stand.1)

  pub stand_last : (list : List A) (places : List ℕ) (items : List A) (place : ℕ) (item : A) → StandAt list places items → slice_get list place ≡ Some item
      → StandAt list (places ++ place ∷ []) (items ++ item ∷ [])
  stand_last list [] [] place item stand there = (there, tt)
  stand_last list [] (i ∷ items) place item stand there = absurd stand
  stand_last list (p ∷ places) [] place item stand there = absurd stand
  stand_last list (p ∷ places) (i ∷ items) place item stand there = (stand.0, stand_last list places items place item stand.1 there)

module _ {A B : Type 0} (f : A → B) where
  pub subsequence_map : (xs ys : List A) → IsSubsequence xs ys → IsSubsequence (map f xs) (map f ys)
  subsequence_map xs [] is = ap (map f) is
  subsequence_map xs (y ∷ ys) (inl is) = inl (subsequence_map xs ys is)
  subsequence_map xs (y ∷ ys) (inr is) = inr (map f is.0, ap (map f) is.1, subsequence_map is.0 ys is.2)

  pub get_map : (xs : List A) (k : ℕ) (x : A) → slice_get xs k ≡ Some x → slice_get (map f xs) k ≡ Some (f x)
  get_map [] k x there = absurd cc
  get_map (y ∷ ys) zero x there = let same : y ≡ x = cc in ap (λ z. Some (f z)) same
  get_map (y ∷ ys) (suc k) x there = get_map ys k x there

  pub stand_map : (list : List A) (places : List ℕ) (items : List A) → StandAt list places items → StandAt (map f list) places (map f items)
  stand_map list [] [] stand = tt
  stand_map list [] (item ∷ items) stand = stand
  stand_map list (place ∷ places) [] stand = stand
  stand_map list (place ∷ places) (item ∷ items) stand = (get_map list place item stand.0, stand_map list places items stand.1)
