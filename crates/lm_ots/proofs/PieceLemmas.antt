-- Lists that are joined from pieces of one length, of which piece i is given by i.
use Rattle.std.proofs.Common.{◌≡◌, ◌∙◌, ap, sym, refl, arith, ℕ, zero, suc, ◌+◌, ◌*◌, ◌<◌, List, ◌++◌, length, take, drop}
use Rattle.std.specs.List.{flat_map, range_with_len}
use Rattle.std.proofs.lemmas.List.{length-append, take_at, drop_at, drop-drop}

-- how long the pieces are together
pub length-pieces : (f : ℕ → List ℕ) (m : ℕ) → ((i : ℕ) → length (f i) ≡ m) → (a n : ℕ) → length (flat_map f (range_with_len a n)) ≡ m * n
length-pieces f m each a zero = omega arith
length-pieces f m each a (suc n) =
    omega (arith, length-append (f a) (flat_map f (range_with_len (a + 1) n)), each a, length-pieces f m each (a + 1) n)

-- a piece stands where those before it end
pub piece-at : (f : ℕ → List ℕ) (m : ℕ) → ((i : ℕ) → length (f i) ≡ m) → (a n i : ℕ) → i < n → take m (drop (m * i) (flat_map f (range_with_len a n))) ≡ f (a + i)
piece-at f m each a zero i below = absurd (omega arith)
piece-at f m each a (suc n) zero below =
    let here : m * 0 ≡ 0 = omega arith in
    let first : a ≡ a + 0 = omega arith in
    ap (λ k. take m (drop k (f a ++ flat_map f (range_with_len (a + 1) n)))) here
    ∙ take_at (f a) (flat_map f (range_with_len (a + 1) n)) m (each a)
    ∙ ap f first
piece-at f m each a (suc n) (suc i) below =
    let rest = flat_map f (range_with_len (a + 1) n) in
    let place : m * suc i ≡ m + m * i = omega arith in
    let number : a + 1 + i ≡ a + suc i = omega arith in
    ap (λ k. take m (drop k (f a ++ rest))) place
    ∙ ap (take m) (sym (drop-drop (m * i) m (f a ++ rest)) ∙ ap (drop (m * i)) (drop_at (f a) rest m (each a)))
    ∙ piece-at f m each (a + 1) n i (omega arith)
    ∙ ap f number

-- lists of the same pieces are the same
pub flat_map-same : (f g : ℕ → List ℕ) (a n : ℕ) → ((i : ℕ) → i < n → f (a + i) ≡ g (a + i)) → flat_map f (range_with_len a n) ≡ flat_map g (range_with_len a n)
flat_map-same f g a zero each = refl
flat_map-same f g a (suc n) each =
    let here : a + 0 ≡ a = omega arith in
    let first : f a ≡ g a = sym (ap f here) ∙ each 0 (omega arith) ∙ ap g here in
    let later : (i : ℕ) → i < n → f (a + 1 + i) ≡ g (a + 1 + i) = λ i below.
    let number : a + suc i ≡ a + 1 + i = omega arith in
    sym (ap f number) ∙ each (suc i) (omega arith) ∙ ap g number in
    ap (λ l. l ++ flat_map f (range_with_len (a + 1) n)) first
    ∙ ap (λ l. g a ++ l) (flat_map-same f g (a + 1) n later)
