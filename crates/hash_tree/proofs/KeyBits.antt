-- The bits of keys, byte by byte: keys that agree in all bits are one key, and of two keys in order
-- that agree up to a depth, the lesser has no greater bit there.
use Rattle.std.proofs.Common.{◌≡◌, ℕ, zero, suc, ◌+◌, ◌-◌, ◌*◌, ◌/◌, ◌%◌, ◌^◌, ◌<◌, ◌≤◌, List, [], ◌∷◌, length, refl, sym, ap, ◌∙◌, ◌⊎◌, inl, inr, ⊎_elim, arith}
use Rattle.std.specs.declared.cmp.Ordering.{Ordering}
use Rattle.std.specs.declared.cmp.Ordering.TheVariants.{Less, Equal, Greater}
use Rattle.std.specs.Ordering.{nat_cmp, ordering_then, MatchOrdering}
use Rattle.std.specs.Cmp.Lexicographic.{slice_cmp}
use Rattle.std.specs.List.{AllByRecursion}
use Rattle.std.specs.Int.{bit_at}
use Rattle.std.proofs.lemmas.Bool.{cases_lt}
use Rattle.std.proofs.lemmas.Nat.{le-div, pow_pos}
use Rattle.std.proofs.lemmas.Cmp.{ranked}
use Rattle.std.proofs.Math.Nat.{div-div-eq-div-mul, div-mul-le_self}
use Rattle.hash_tree.specs.Entries.{bit, Agree}

-- the bits of the first byte
pub bit_first : (x : ℕ) (xs : List ℕ) (t : ℕ) → t < 8 → bit (x ∷ xs) t ≡ bit_at x (7 - t)
bit_first x xs t h =
    let q : t / 8 ≡ 0 = omega arith in
    let r : t % 8 ≡ t = omega arith in
    rw (q, r)

-- the bits of the others
pub bit_later : (x : ℕ) (xs : List ℕ) (t : ℕ) → bit (x ∷ xs) (8 + t) ≡ bit xs t
bit_later x xs t =
    let q : (8 + t) / 8 ≡ suc (t / 8) = omega arith in
    let r : (8 + t) % 8 ≡ t % 8 = omega arith in
    rw (q, r)

-- half of what is left without j bits is what is left without one more
halved : (x j : ℕ) → x / 2 ^ suc j ≡ (x / 2 ^ j) / 2
halved x j = ap (λ n. x / n) (omega arith) ∙ sym (div-div-eq-div-mul x (2 ^ j) 2)

div_mono : (x y k : ℕ) → 0 < k → x ≤ y → x / k ≤ y / k
div_mono x y k pos h = le-div (x / k) y k pos (omega (arith, div-mul-le_self x k))

-- bytes with the same first bits are the same without the others
pub same_tops : (x y : ℕ) → x < 256 → y < 256 → (t j : ℕ) → t + j ≡ 8 → ((i : ℕ) → i < t → bit_at x (7 - i) ≡ bit_at y (7 - i)) → x / 2 ^ j ≡ y / 2 ^ j
same_tops x y hx hy zero j e h =
    let at : j ≡ 8 = omega arith in
    rw at (omega arith)
same_tops x y hx hy (suc t) j e h =
    let before : x / 2 ^ suc j ≡ y / 2 ^ suc j = same_tops x y hx hy t (suc j) (omega arith) (λ i l. h i (omega arith)) in
    let at : 7 - t ≡ j = omega arith in
    let here : x / 2 ^ j % 2 ≡ y / 2 ^ j % 2 = rw at at (h t (omega arith)) in
    let a = rw (halved x j, halved y j) at before in
    omega arith

-- of two bytes in order with the same first bits, the lesser has no greater bit after them
lesser_bit : (x y : ℕ) → x < 256 → y < 256 → x ≤ y → (t : ℕ) → t < 8 → ((i : ℕ) → i < t → bit_at x (7 - i) ≡ bit_at y (7 - i)) → bit_at y (7 - t) ≡ 0 → bit_at x (7 - t) ≡ 0
lesser_bit x y hx hy le t l same zero_there =
    let tops : x / 2 ^ suc (7 - t) ≡ y / 2 ^ suc (7 - t) = same_tops x y hx hy t (suc (7 - t)) (omega arith) same in
    let a = rw (halved x (7 - t), halved y (7 - t)) at tops in
    let b = div_mono x y (2 ^ (7 - t)) (pow_pos (7 - t)) le in
    omega arith

-- bytes with the same bits are equal
same_bytes : (x y : ℕ) → x < 256 → y < 256 → ((i : ℕ) → i < 8 → bit_at x (7 - i) ≡ bit_at y (7 - i)) → x ≡ y
same_bytes x y hx hy same =
    let whole : x / 2 ^ 0 ≡ y / 2 ^ 0 = same_tops x y hx hy 8 0 refl same in
    omega arith

-- two lists of bytes that agree in their first bits do so in the first byte's
agree_first : (x y : ℕ) (xs ys : List ℕ) (n : ℕ) → Agree n (x ∷ xs) (y ∷ ys) → (i : ℕ) → i < n → i < 8 → bit_at x (7 - i) ≡ bit_at y (7 - i)
agree_first x y xs ys n same i l l8 = sym (bit_first x xs i l8) ∙ same i l ∙ bit_first y ys i l8

-- and in the others'
agree_later : (x y : ℕ) (xs ys : List ℕ) (n : ℕ) → Agree (8 + n) (x ∷ xs) (y ∷ ys) → Agree n xs ys
agree_later x y xs ys n same i l = sym (bit_later x xs i) ∙ same (8 + i) (omega arith) ∙ bit_later y ys i

abbrev pub AreBytes : List ℕ → Type 0
AreBytes = AllByRecursion (λ b. b < 256)

-- keys that agree in all bits are one
pub same_keys : (xs ys : List ℕ) → AreBytes xs → AreBytes ys → length xs ≡ length ys → Agree (8 * length xs) xs ys → xs ≡ ys
same_keys [] [] hx hy e same = refl
same_keys [] (y ∷ ys) hx hy e same = absurd (omega arith)
same_keys (x ∷ xs) [] hx hy e same = absurd (omega arith)
same_keys (x ∷ xs) (y ∷ ys) hx hy e same =
    let all : Agree (8 + 8 * length xs) (x ∷ xs) (y ∷ ys) = λ i l. same i (omega arith) in
    let first : x ≡ y = same_bytes x y hx.0 hy.0 (λ i l. agree_first x y xs ys _ all i (omega arith) l) in
    let later : xs ≡ ys = same_keys xs ys hx.1 hy.1 (omega arith) (agree_later x y xs ys _ all) in
    cc

-- what decides the order of two lists
lesser_first : (x y : ℕ) (r : Ordering) → ordering_then (nat_cmp x y) r ≡ Less → (x < y) ⊎ ((x ≡ y) × (r ≡ Less))
lesser_first x y r less =
    elim (nat_cmp x y) as (λ o. MatchOrdering o (x < y) (x ≡ y) (y < x) → ordering_then o r ≡ Less → (x < y) ⊎ ((x ≡ y) × (r ≡ Less))) [
      | Less ↦ λ m e. inl m
      | Equal ↦ λ m e. inr (m, e)
      | Greater ↦ λ m e. absurd (cc)
    ] (ranked x y _ refl) less

-- of two keys in order that agree up to a depth, the lesser has no greater bit there
pub lesser_key : (xs ys : List ℕ) → AreBytes xs → AreBytes ys → length xs ≡ length ys → slice_cmp nat_cmp xs ys ≡ Less → (t : ℕ) → Agree t xs ys → bit ys t ≡ 0 → bit xs t ≡ 0
lesser_key [] [] hx hy e less t same zero_there = zero_there
lesser_key [] (y ∷ ys) hx hy e less t same zero_there = absurd (omega arith)
lesser_key (x ∷ xs) [] hx hy e less t same zero_there = absurd (omega arith)
lesser_key (x ∷ xs) (y ∷ ys) hx hy e less t same zero_there =
    ⊎_elim
    (λ (l : t < 8).
    let le : x ≤ y = ⊎_elim (λ (h : x < y). omega arith) (λ (h : (x ≡ y) × (slice_cmp nat_cmp xs ys ≡ Less)). omega arith) (lesser_first x y _ less) in
    bit_first x xs t l ∙ lesser_bit x y hx.0 hy.0 le t l (λ i il. agree_first x y xs ys t same i il (omega arith)) (sym (bit_first y ys t l) ∙ zero_there))
    (λ (l : 8 ≤ t).
    let at : 8 + (t - 8) ≡ t = omega arith in
    let same8 : Agree (8 + (t - 8)) (x ∷ xs) (y ∷ ys) = λ i il. same i (omega arith) in
    let first : x ≡ y = same_bytes x y hx.0 hy.0 (λ i il. agree_first x y xs ys t same i (omega arith) il) in
    let later : slice_cmp nat_cmp xs ys ≡ Less = ⊎_elim (λ (h : x < y). absurd (omega arith)) (λ (h : (x ≡ y) × (slice_cmp nat_cmp xs ys ≡ Less)). h.1) (lesser_first x y _ less) in
    let there : bit (y ∷ ys) (8 + (t - 8)) ≡ 0 = ap (bit (y ∷ ys)) at ∙ zero_there in
    ap (bit (x ∷ xs)) (sym at) ∙ bit_later x xs (t - 8)
    ∙ lesser_key xs ys hx.1 hy.1 (omega arith) later (t - 8) (agree_later x y xs ys _ same8) (sym (bit_later y ys (t - 8)) ∙ there))
    (cases_lt t 8)
