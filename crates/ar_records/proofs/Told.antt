-- What is told of each of a list, one behind the other.
use Rattle.std.proofs.Common.{◌≡◌, ℕ, suc, ◌+◌, ◌<◌, List, [], ◌∷◌, ◌++◌, length, map, take, get_or, ap, sym, ◌∙◌, arith}
use Rattle.std.specs.Prelude.{Option}
use Rattle.std.specs.List.{filter_map}
use Rattle.std.proofs.Math.Seq.{take-suc}
use Rattle.std.proofs.lemmas.List.Elements.{filter_map-append}

-- what is told of one more stands behind what is told of those before
pub more-told : {X Y Z : Type 0} (f : X → Option Y) (told : Z → Y) (xs : List X) (i : ℕ) (x : X) (before after : List Z)
    → i < length xs → get_or xs i x ≡ x → map told before ≡ filter_map f (take i xs) → map told after ≡ map told before ++ filter_map f (x ∷ [])
    → map told after ≡ filter_map f (take (i + 1) xs)
more-told f told xs i x before after inside is so more =
    let one : i + 1 ≡ suc i = omega arith in
    let longer = ap (λ n. take n xs) one ∙ take-suc xs i x inside ∙ ap (λ y. take i xs ++ y ∷ []) is in
    more ∙ (ap (λ ys. ys ++ filter_map f (x ∷ [])) so ∙ (sym (filter_map-append f (take i xs) (x ∷ [])) ∙ sym (ap (filter_map f) longer)))
