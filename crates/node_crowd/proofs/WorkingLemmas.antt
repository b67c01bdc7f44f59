-- What the workers' results say, where each is a row.
use Rattle.std.proofs.Common.{◌≡◌, ℕ, suc, ◌<◌, List, [], ◌∷◌, Result, Ok, IfOk, length, map, get_or, subst, arith}
use Rattle.std.specs.List.{AllZip}

-- what holds of what two lists have at each place
pub zip_places : {A B : Type 0} (R : A → B → Type 0) (xs : List A) (ys : List B) → length ys ≡ length xs → ((place : ℕ) (a : A) (b : B) → place < length xs → R (get_or xs place a) (get_or ys place b)) → AllZip R xs ys
zip_places R [] [] long each = tt
zip_places R [] (y ∷ ys) long each = absurd (omega (arith, long))
zip_places R (x ∷ xs) [] long each = absurd (omega (arith, long))
zip_places R (x ∷ xs) (y ∷ ys) long each = (each 0 x y (omega arith), zip_places R xs ys (omega (arith, long)) (λ place a b lt. each (suc place) a b (omega arith)))

module _ {A B E : Type 0} (R : A → B → Type 0) where
  -- each result is a row, and what may come of each task is said of it
  pub zip_rows : (tasks : List A) (results : List (Result B E)) (rows : List B) → results ≡ map Ok rows → AllZip (λ task result. IfOk result (λ row. R task row)) tasks results → AllZip R tasks rows
  zip_rows tasks results rows is all = from tasks rows (subst (λ l. AllZip (λ task (result : Result B E). IfOk result (λ row. R task row)) tasks l) is all)
    where
      from : (tasks : List A) (rows : List B) → AllZip (λ task (result : Result B E). IfOk result (λ row. R task row)) tasks (map Ok rows) → AllZip R tasks rows
      from [] [] all = tt
      from [] (r ∷ rows) all = all
      from (t ∷ tasks) [] all = all
      from (t ∷ tasks) (r ∷ rows) all = (all.0, from tasks rows all.1)
