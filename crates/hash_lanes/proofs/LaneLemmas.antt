-- Vectors of four lanes, as the lists of their lanes.
use Rattle.std.proofs.Common.{◌≡◌, ◌∙◌, ℕ, zero, suc, ◌<◌, ◌+◌, ◌-◌, ◌*◌, ◌/◌, ◌%◌, ◌^◌, false, cond, ltb, List, [], ◌∷◌, length, get_or, slice_index, slice_index_or, bit_or, arith, ap, inl, inr, refl, subst, w32}
use Rattle.std.specs.Int.{rotate_right}
use Rattle.std.proofs.lemmas.Bool.{cases_lt}
use Rattle.std.specs.Simd.Lanes.{zip2, sel_l, Each1}
use Rattle.std.proofs.lemmas.Simd.{length-zip2, get_or-sel_l, get_or-zip2, Each1-get_or}
use mir.Val.{Fits}
use Rattle.hash_lanes.specs.Lanes.{lane_of}

-- what holds at the first n places and at the m behind them
both_parts : (P : ℕ → Type 0) (n m : ℕ) → ((k : ℕ) → k < n → P k) → ((k : ℕ) → k < m → P (n + k)) → (k : ℕ) → k < n + m → P k
both_parts P n m front back k within = elim (cases_lt k n) [
  | inl before ↦ front k before
  | inr behind ↦
      let place : n + (k - n) ≡ k = omega arith in
      subst P place (back (k - n) (omega arith))
]

only_place : (P : ℕ → Type 0) → P 0 → (k : ℕ) → k < 1 → P k
only_place P here k within =
    let place : 0 ≡ k = omega arith in
    subst P place here

each_of_two : (P : ℕ → Type 0) → P 0 → P 1 → (k : ℕ) → k < 2 → P k
each_of_two P p0 p1 = both_parts P 1 1 (only_place P p0) (only_place (λ k. P (1 + k)) p1)

pub each_of_four : (P : ℕ → Type 0) → P 0 → P 1 → P 2 → P 3 → (k : ℕ) → k < 4 → P k
each_of_four P p0 p1 p2 p3 = both_parts P 2 2 (each_of_two P p0 p1) (each_of_two (λ k. P (2 + k)) p2 p3)

pub each_of_five : (P : ℕ → Type 0) → P 0 → P 1 → P 2 → P 3 → P 4 → (k : ℕ) → k < 5 → P k
each_of_five P p0 p1 p2 p3 p4 = both_parts P 4 1 (each_of_four P p0 p1 p2 p3) (only_place (λ k. P (4 + k)) p4)

pub each_of_eight : (P : ℕ → Type 0) → P 0 → P 1 → P 2 → P 3 → P 4 → P 5 → P 6 → P 7 → (k : ℕ) → k < 8 → P k
each_of_eight P p0 p1 p2 p3 p4 p5 p6 p7 =
    both_parts P 4 4 (each_of_four P p0 p1 p2 p3) (each_of_four (λ k. P (4 + k)) p4 p5 p6 p7)

pub each_of_sixteen : (P : ℕ → Type 0) → P 0 → P 1 → P 2 → P 3 → P 4 → P 5 → P 6 → P 7 → P 8 → P 9 → P 10 → P 11 → P 12 → P 13
    → P 14 → P 15 → (k : ℕ) → k < 16 → P k
each_of_sixteen P p0 p1 p2 p3 p4 p5 p6 p7 p8 p9 p10 p11 p12 p13 p14 p15 =
    both_parts P 8 8 (each_of_eight P p0 p1 p2 p3 p4 p5 p6 p7) (each_of_eight (λ k. P (8 + k)) p8 p9 p10 p11 p12 p13 p14 p15)

-- word k of a lane is the lane of word k
pub slice_index-lane_of : (vs : List (List ℕ)) (i k : ℕ) → slice_index (lane_of vs i) k ≡ slice_index (slice_index_or vs k []) i
slice_index-lane_of [] zero k = refl
slice_index-lane_of [] (suc i) k = refl
slice_index-lane_of (v ∷ vs) i zero = refl
slice_index-lane_of (v ∷ vs) i (suc k) = slice_index-lane_of vs i k

-- a lane fits a word
pub lane_fits : (xs : List ℕ) (i : ℕ) → length xs ≡ 4 → Each1 (Fits w32) xs → i < 4 → slice_index xs i < 2 ^ 32
lane_fits xs i long fits below = (Each1-get_or (Fits w32) xs i 0 (omega arith) fits).fits

-- lane by lane, of two vectors
zip2_lane : (f : ℕ → ℕ → ℕ) (a b : List ℕ) (i : ℕ) → length a ≡ 4 → length b ≡ 4 → i < 4
    → slice_index (zip2 f a b) i ≡ f (slice_index a i) (slice_index b i)
zip2_lane f a b i la lb below = get_or-zip2 f a b i 0 0 0 (omega arith) (omega arith)

-- a vector with one word in each lane
pub splat_lane : (word i : ℕ) → i < 4 → slice_index (word ∷ word ∷ word ∷ word ∷ []) i ≡ word
splat_lane word = each_of_four (λ j. slice_index (word ∷ word ∷ word ∷ word ∷ []) j ≡ word) refl refl refl refl

-- all lanes of a vector with one number, as a distance
pub lane_by : (f : ℕ → ℕ → ℕ) (k : ℕ) (a : List ℕ) → length a ≡ 4 → (i : ℕ) → i < 4
    → slice_index (zip2 f a (k ∷ k ∷ k ∷ k ∷ [])) i ≡ f (slice_index a i) k
lane_by f k a la i below = zip2_lane f a (k ∷ k ∷ k ∷ k ∷ []) i la refl below ∙ ap (f (slice_index a i)) (splat_lane k i below)

-- the parts of a word that go down and up, joined in each lane
pub lane_rotated : (k : ℕ) → 0 < k → k < 32 → (down up : List ℕ) (x i : ℕ) → length down ≡ 4 → length up ≡ 4 → i < 4
    → slice_index down i ≡ x / 2 ^ k → slice_index up i ≡ x * 2 ^ (32 - k) % 2 ^ 32 → slice_index (zip2 bit_or down up) i ≡ rotate_right w32 x k
lane_rotated k low high down up x i ld lu below ed eu =
    let by : k % 32 ≡ k = omega arith in
    let rest : (32 - k) % 32 ≡ 32 - k = omega arith in
    zip2_lane bit_or down up i ld lu below ∙ rw (ed, eu, by, rest) refl

-- a choice among two vectors, lane by lane
pub chosen_lane : (moves a b : List ℕ) (i : ℕ) → length moves ≡ 4 → length a ≡ 4 → length b ≡ 4 → i < 4
    → slice_index (sel_l (zip2 ltb (0 ∷ 0 ∷ 0 ∷ 0 ∷ []) moves) a b) i ≡ cond (ltb 0 (slice_index moves i)) (slice_index a i) (slice_index b i)
chosen_lane moves a b i lm la lb below =
    let zeros : List ℕ = 0 ∷ 0 ∷ 0 ∷ 0 ∷ [] in
    let long : length (zip2 ltb zeros moves) ≡ 4 = length-zip2 ltb zeros moves (omega arith) in
    get_or-sel_l (zip2 ltb zeros moves) a b i 0 (omega arith) (omega arith) (omega arith)
    ∙ ap (λ t. cond t (get_or a i 0) (get_or b i 0)) (get_or-zip2 ltb zeros moves i 0 0 false (omega arith) (omega arith)
    ∙ ap (λ z. ltb z (get_or moves i 0)) (each_of_four (λ j. get_or zeros j 0 ≡ 0) refl refl refl refl i below))

-- the words of a lane, where there are eight vectors
pub lane_of-eight : (vs : List (List ℕ)) (i : ℕ) → length vs ≡ 8 → lane_of vs i
    ≡ slice_index (slice_index_or vs 0 []) i ∷ slice_index (slice_index_or vs 1 []) i ∷ slice_index (slice_index_or vs 2 []) i
    ∷ slice_index (slice_index_or vs 3 []) i ∷ slice_index (slice_index_or vs 4 []) i ∷ slice_index (slice_index_or vs 5 []) i
    ∷ slice_index (slice_index_or vs 6 []) i ∷ slice_index (slice_index_or vs 7 []) i ∷ []
lane_of-eight (a ∷ b ∷ c ∷ d ∷ e ∷ f ∷ g ∷ h ∷ []) i long = refl
lane_of-eight [] i long = absurd (omega arith)
lane_of-eight (a ∷ []) i long = absurd (omega arith)
lane_of-eight (a ∷ b ∷ []) i long = absurd (omega arith)
lane_of-eight (a ∷ b ∷ c ∷ []) i long = absurd (omega arith)
lane_of-eight (a ∷ b ∷ c ∷ d ∷ []) i long = absurd (omega arith)
lane_of-eight (a ∷ b ∷ c ∷ d ∷ e ∷ []) i long = absurd (omega arith)
lane_of-eight (a ∷ b ∷ c ∷ d ∷ e ∷ f ∷ []) i long = absurd (omega arith)
lane_of-eight (a ∷ b ∷ c ∷ d ∷ e ∷ f ∷ g ∷ []) i long = absurd (omega arith)
lane_of-eight (a ∷ b ∷ c ∷ d ∷ e ∷ f ∷ g ∷ h ∷ x ∷ xs) i long = absurd (omega arith)
