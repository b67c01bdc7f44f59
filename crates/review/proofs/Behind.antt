-- What is told of a list, one element behind the other.
use Rattle.std.proofs.Common.{◌≡◌, ℕ, suc, ◌+◌, ◌<◌, List, [], ◌∷◌, ◌++◌, Vec, Global, length, map, take, get_or, sym, ap, ◌∙◌, append_assoc, arith}
use Rattle.std.proofs.Math.Seq.{take-suc}
use Rattle.std.proofs.lemmas.List.{map-append}
use Rattle.ar_run.specs.Answers.{bytes_of}

-- one line behind the others
pub one_behind : (before after : List (Vec ℕ Global)) (line : Vec ℕ Global) (text : List ℕ) → after ≡ before ++ line ∷ [] → line.items ≡ text
    → map bytes_of after ≡ map bytes_of before ++ text ∷ []
one_behind before after line text after-is is =
    ap (map bytes_of) after-is ∙ map-append bytes_of before (line ∷ []) ∙ ap (λ y. map bytes_of before ++ y ∷ []) is

-- what is told of one more element
pub one-more : {X Y : Type 0} (f : X → Y) (xs : List X) (k : ℕ) (d : X) (first before after : List Y) → k < length xs
    → before ≡ first ++ map f (take k xs) → after ≡ before ++ f (get_or xs k d) ∷ [] → after ≡ first ++ map f (take (k + 1) xs)
one-more f xs k d first before after within so after-is =
    let step : k + 1 ≡ suc k = omega arith in
    let front : take (k + 1) xs ≡ take k xs ++ get_or xs k d ∷ [] = ap (λ n. take n xs) step ∙ take-suc xs k d within in
    after-is ∙ ap (λ ys. ys ++ f (get_or xs k d) ∷ []) so ∙ append_assoc first (map f (take k xs)) (f (get_or xs k d) ∷ [])
    ∙ ap (λ ys. first ++ ys) (sym (map-append f (take k xs) (get_or xs k d ∷ [])) ∙ sym (ap (map f) front))

-- two lists behind one another, and one line behind both
pub all-told : (ones others : List (List ℕ)) (end : List ℕ) (first second last : List (Vec ℕ Global)) (line : Vec ℕ Global)
    → map bytes_of first ≡ ones → map bytes_of second ≡ map bytes_of first ++ others → last ≡ second ++ line ∷ [] → line.items ≡ end
    → map bytes_of last ≡ ones ++ (others ++ end ∷ [])
all-told ones others end first second last line first-is second-is last-is is =
    one_behind second last line end last-is is ∙ ap (λ ys. ys ++ end ∷ []) (second-is ∙ ap (λ ys. ys ++ others) first-is) ∙ append_assoc ones others (end ∷ [])
