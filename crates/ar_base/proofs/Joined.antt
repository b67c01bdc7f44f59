-- Lists that are joined, and those of one length cut again.
use Rattle.std.proofs.Common.{◌≡◌, ◌∙◌, ℕ, ◌*◌, List, [], ◌∷◌, ◌++◌, length, map, drop, refl, ap, All, arith, length-append}
use Rattle.std.specs.List.{concat, flat_map}
use Rattle.std.specs.Simd.{first_chunks}
use Rattle.std.proofs.lemmas.List.{take_at, drop_at}
use Rattle.std.proofs.lemmas.List.Elements.{All-head, All-tail}

pub concat_map : {X : Type 0} (f : X → List ℕ) (xs : List X) → concat (map f xs) ≡ flat_map f xs
concat_map f [] = refl
concat_map f (x ∷ xs) = ap (λ l. f x ++ l) (concat_map f xs)

-- such as digests
abbrev pub AreWide : ℕ → List (List ℕ) → Type 0
AreWide n xss = All (λ xs. length xs ≡ n) xss

pub length-joined : (n : ℕ) (xss : List (List ℕ)) → AreWide n xss → length (concat xss) ≡ length xss * n
length-joined n [] wide = omega arith
length-joined n (xs ∷ xss) wide =
    let here = All-head (λ (l : List ℕ). length l ≡ n) xs xss wide in
    let rest = length-joined n xss (All-tail (λ (l : List ℕ). length l ≡ n) xs xss wide) in
    omega (arith, length-append xs (concat xss))

pub cut-joined : (n : ℕ) (xss : List (List ℕ)) → AreWide n xss → first_chunks n (length xss) (concat xss) ≡ xss
cut-joined n [] wide = refl
cut-joined n (xs ∷ xss) wide =
    let here = All-head (λ (l : List ℕ). length l ≡ n) xs xss wide in
    ap (λ l. l ∷ first_chunks n (length xss) (drop n (xs ++ concat xss))) (take_at xs (concat xss) n here)
    ∙ ap (λ l. xs ∷ first_chunks n (length xss) l) (drop_at xs (concat xss) n here)
    ∙ ap (λ l. xs ∷ l) (cut-joined n xss (All-tail (λ (l : List ℕ). length l ≡ n) xs xss wide))
