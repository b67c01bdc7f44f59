-- Rotations of a word of 32 bits by literal distances, and what they make of sums of bits.
use Rattle.std.proofs.Common.{◌≡◌, ◌∙◌, ℕ, ◌+◌, ◌*◌, ◌/◌, ◌%◌, ◌^◌, ◌<◌, bit_or, bit_xor, arith, ap, ap₂, sym, w32}
use Rattle.std.specs.Int.{rotate_right}
use Rattle.std.proofs.lemmas.Nat.{or_comm, or_shifted, xor_block, xor_comm, xor_lt, xor_mod, xor_shr}
use Rattle.sha2.specs.Sha256.{big_sigma0, big_sigma1, small_sigma0, small_sigma1}

-- a word turned: its low k bits stand above its j others
abbrev turned : ℕ → ℕ → ℕ → ℕ
turned j k x = x % 2 ^ k * 2 ^ j + x / 2 ^ k

-- an or of the two parts is that sum
or-turned : (j k x moved : ℕ) → moved ≡ x % 2 ^ k * 2 ^ j → x / 2 ^ k < 2 ^ j → bit_or (x / 2 ^ k) moved ≡ turned j k x
or-turned j k x moved at fits =
    ap (bit_or (x / 2 ^ k)) at ∙ or_comm (x / 2 ^ k) (x % 2 ^ k * 2 ^ j) ∙ or_shifted (x % 2 ^ k) j (x / 2 ^ k) fits

-- it is a word, and the turn of a sum of bits is the sum of the turns
record IsTurn (turn : ℕ → ℕ) : Type 0 where
  word : (x : ℕ) → x < 2 ^ 32 → turn x < 2 ^ 32
  sums : (x y : ℕ) → x < 2 ^ 32 → y < 2 ^ 32 → turn (bit_xor x y) ≡ bit_xor (turn x) (turn y)

turned-sums : (j k : ℕ) → ((x : ℕ) → x < 2 ^ 32 → x / 2 ^ k < 2 ^ j) → (x y : ℕ) → x < 2 ^ 32 → y < 2 ^ 32
    → turned j k (bit_xor x y) ≡ bit_xor (turned j k x) (turned j k y)
turned-sums j k fits x y fx fy =
    ap₂ (λ (low high : ℕ). low * 2 ^ j + high) (xor_mod x y k) (xor_shr x y k)
    ∙ sym (xor_block j (x % 2 ^ k) (y % 2 ^ k) (x / 2 ^ k) (y / 2 ^ k) (fits x fx) (fits y fy))

is_turn : (j k : ℕ) (turn : ℕ → ℕ) → ((x : ℕ) → x < 2 ^ 32 → turn x ≡ turned j k x) → ((x : ℕ) → x < 2 ^ 32 → x / 2 ^ k < 2 ^ j)
    → ((x : ℕ) → x < 2 ^ 32 → turned j k x < 2 ^ 32) → IsTurn turn
is_turn j k turn is fits word = record {
  word = λ x fx. rw (is x fx) (word x fx);
  sums = λ x y fx fy. rw (is (bit_xor x y) (xor_lt 32 x y fx fy), is x fx, is y fy) (turned-sums j k fits x y fx fy);
}

-- three turns of a word, by a turn of a sum with a turn of a sum with a turn
nested_three : (first second third : ℕ → ℕ) → IsTurn first → IsTurn second → IsTurn third → (x : ℕ) → x < 2 ^ 32
    → third (bit_xor x (second (bit_xor x (first x)))) ≡ bit_xor (bit_xor (third (second (first x))) (third (second x))) (third x)
nested_three first second third a b c x fits =
    let both = bit_xor (second x) (second (first x)) in
    let inner = b.sums x (first x) fits (a.word x fits) in
    let one = b.word x fits in
    let two = b.word (first x) (a.word x fits) in
    ap (λ (y : ℕ). third (bit_xor x y)) inner
    ∙ c.sums x both fits (xor_lt 32 (second x) (second (first x)) one two)
    ∙ ap (bit_xor (third x)) (c.sums (second x) (second (first x)) one two ∙ xor_comm (third (second x)) (third (second (first x))))
    ∙ xor_comm (third x) (bit_xor (third (second (first x))) (third (second x)))

-- two turns of a word, by a turn of a sum with a turn
nested_two : (first second : ℕ → ℕ) → IsTurn first → IsTurn second → (x : ℕ) → x < 2 ^ 32
    → second (bit_xor x (first x)) ≡ bit_xor (second (first x)) (second x)
nested_two first second a b x fits =
    b.sums x (first x) fits (a.word x fits) ∙ xor_comm (second x) (second (first x))

-- the distances

by_2 : (x : ℕ) → x < 2 ^ 32 → rotate_right w32 x 2 ≡ turned 30 2 x
by_2 x fits = or-turned 30 2 x (x * 2 ^ 30 % 2 ^ 32) (omega arith) (omega arith)

by_6 : (x : ℕ) → x < 2 ^ 32 → rotate_right w32 x 6 ≡ turned 26 6 x
by_6 x fits = or-turned 26 6 x (x * 2 ^ 26 % 2 ^ 32) (omega arith) (omega arith)

by_7 : (x : ℕ) → x < 2 ^ 32 → rotate_right w32 x 7 ≡ turned 25 7 x
by_7 x fits = or-turned 25 7 x (x * 2 ^ 25 % 2 ^ 32) (omega arith) (omega arith)

by_11 : (x : ℕ) → x < 2 ^ 32 → rotate_right w32 x 11 ≡ turned 21 11 x
by_11 x fits = or-turned 21 11 x (x * 2 ^ 21 % 2 ^ 32) (omega arith) (omega arith)

by_13 : (x : ℕ) → x < 2 ^ 32 → rotate_right w32 x 13 ≡ turned 19 13 x
by_13 x fits = or-turned 19 13 x (x * 2 ^ 19 % 2 ^ 32) (omega arith) (omega arith)

by_17 : (x : ℕ) → x < 2 ^ 32 → rotate_right w32 x 17 ≡ turned 15 17 x
by_17 x fits = or-turned 15 17 x (x * 2 ^ 15 % 2 ^ 32) (omega arith) (omega arith)

by_18 : (x : ℕ) → x < 2 ^ 32 → rotate_right w32 x 18 ≡ turned 14 18 x
by_18 x fits = or-turned 14 18 x (x * 2 ^ 14 % 2 ^ 32) (omega arith) (omega arith)

by_19 : (x : ℕ) → x < 2 ^ 32 → rotate_right w32 x 19 ≡ turned 13 19 x
by_19 x fits = or-turned 13 19 x (x * 2 ^ 13 % 2 ^ 32) (omega arith) (omega arith)

by_21 : (x : ℕ) → x < 2 ^ 32 → rotate_right w32 x 21 ≡ turned 11 21 x
by_21 x fits = or-turned 11 21 x (x * 2 ^ 11 % 2 ^ 32) (omega arith) (omega arith)

by_22 : (x : ℕ) → x < 2 ^ 32 → rotate_right w32 x 22 ≡ turned 10 22 x
by_22 x fits = or-turned 10 22 x (x * 2 ^ 10 % 2 ^ 32) (omega arith) (omega arith)

by_23 : (x : ℕ) → x < 2 ^ 32 → rotate_right w32 x 23 ≡ turned 9 23 x
by_23 x fits = or-turned 9 23 x (x * 2 ^ 9 % 2 ^ 32) (omega arith) (omega arith)

by_25 : (x : ℕ) → x < 2 ^ 32 → rotate_right w32 x 25 ≡ turned 7 25 x
by_25 x fits = or-turned 7 25 x (x * 2 ^ 7 % 2 ^ 32) (omega arith) (omega arith)

by_27 : (x : ℕ) → x < 2 ^ 32 → rotate_right w32 x 27 ≡ turned 5 27 x
by_27 x fits = or-turned 5 27 x (x * 2 ^ 5 % 2 ^ 32) (omega arith) (omega arith)

by_30 : (x : ℕ) → x < 2 ^ 32 → rotate_right w32 x 30 ≡ turned 2 30 x
by_30 x fits = or-turned 2 30 x (x * 2 ^ 2 % 2 ^ 32) (omega arith) (omega arith)

turn_18 : IsTurn (λ x. rotate_right w32 x 18)
turn_18 = is_turn 14 18 (λ x. rotate_right w32 x 18) by_18 (λ x fits. omega arith) (λ x fits. omega arith)

turn_19 : IsTurn (λ x. rotate_right w32 x 19)
turn_19 = is_turn 13 19 (λ x. rotate_right w32 x 19) by_19 (λ x fits. omega arith) (λ x fits. omega arith)

turn_21 : IsTurn (λ x. rotate_right w32 x 21)
turn_21 = is_turn 11 21 (λ x. rotate_right w32 x 21) by_21 (λ x fits. omega arith) (λ x fits. omega arith)

turn_22 : IsTurn (λ x. rotate_right w32 x 22)
turn_22 = is_turn 10 22 (λ x. rotate_right w32 x 22) by_22 (λ x fits. omega arith) (λ x fits. omega arith)

turn_23 : IsTurn (λ x. rotate_right w32 x 23)
turn_23 = is_turn 9 23 (λ x. rotate_right w32 x 23) by_23 (λ x fits. omega arith) (λ x fits. omega arith)

turn_25 : IsTurn (λ x. rotate_right w32 x 25)
turn_25 = is_turn 7 25 (λ x. rotate_right w32 x 25) by_25 (λ x fits. omega arith) (λ x fits. omega arith)

turn_27 : IsTurn (λ x. rotate_right w32 x 27)
turn_27 = is_turn 5 27 (λ x. rotate_right w32 x 27) by_27 (λ x fits. omega arith) (λ x fits. omega arith)

turn_30 : IsTurn (λ x. rotate_right w32 x 30)
turn_30 = is_turn 2 30 (λ x. rotate_right w32 x 30) by_30 (λ x fits. omega arith) (λ x fits. omega arith)

by_12 : (x : ℕ) → x < 2 ^ 32 → rotate_right w32 x 12 ≡ turned 20 12 x
by_12 x fits = or-turned 20 12 x (x * 2 ^ 20 % 2 ^ 32) (omega arith) (omega arith)

-- two turns are one

then_23_22 : (x : ℕ) → x < 2 ^ 32 → rotate_right w32 (rotate_right w32 x 23) 22 ≡ rotate_right w32 x 13
then_23_22 x fits =
    let together : turned 10 22 (turned 9 23 x) ≡ turned 19 13 x = omega arith in
    ap (λ (y : ℕ). rotate_right w32 y 22) (by_23 x fits) ∙ by_22 (turned 9 23 x) (omega arith) ∙ together ∙ sym (by_13 x fits)

then_21_23 : (x : ℕ) → x < 2 ^ 32 → rotate_right w32 (rotate_right w32 x 21) 23 ≡ rotate_right w32 x 12
then_21_23 x fits =
    let together : turned 9 23 (turned 11 21 x) ≡ turned 20 12 x = omega arith in
    ap (λ (y : ℕ). rotate_right w32 y 23) (by_21 x fits) ∙ by_23 (turned 11 21 x) (omega arith) ∙ together ∙ sym (by_12 x fits)

then_12_22 : (x : ℕ) → x < 2 ^ 32 → rotate_right w32 (rotate_right w32 x 12) 22 ≡ rotate_right w32 x 2
then_12_22 x fits =
    let together : turned 10 22 (turned 20 12 x) ≡ turned 30 2 x = omega arith in
    ap (λ (y : ℕ). rotate_right w32 y 22) (by_12 x fits) ∙ by_22 (turned 20 12 x) (omega arith) ∙ together ∙ sym (by_2 x fits)

then_18_25 : (x : ℕ) → x < 2 ^ 32 → rotate_right w32 (rotate_right w32 x 18) 25 ≡ rotate_right w32 x 11
then_18_25 x fits =
    let together : turned 7 25 (turned 14 18 x) ≡ turned 21 11 x = omega arith in
    ap (λ (y : ℕ). rotate_right w32 y 25) (by_18 x fits) ∙ by_25 (turned 14 18 x) (omega arith) ∙ together ∙ sym (by_11 x fits)

then_27_18 : (x : ℕ) → x < 2 ^ 32 → rotate_right w32 (rotate_right w32 x 27) 18 ≡ rotate_right w32 x 13
then_27_18 x fits =
    let together : turned 14 18 (turned 5 27 x) ≡ turned 19 13 x = omega arith in
    ap (λ (y : ℕ). rotate_right w32 y 18) (by_27 x fits) ∙ by_18 (turned 5 27 x) (omega arith) ∙ together ∙ sym (by_13 x fits)

then_13_25 : (x : ℕ) → x < 2 ^ 32 → rotate_right w32 (rotate_right w32 x 13) 25 ≡ rotate_right w32 x 6
then_13_25 x fits =
    let together : turned 7 25 (turned 19 13 x) ≡ turned 26 6 x = omega arith in
    ap (λ (y : ℕ). rotate_right w32 y 25) (by_13 x fits) ∙ by_25 (turned 19 13 x) (omega arith) ∙ together ∙ sym (by_6 x fits)

then_21_18 : (x : ℕ) → x < 2 ^ 32 → rotate_right w32 (rotate_right w32 x 21) 18 ≡ rotate_right w32 x 7
then_21_18 x fits =
    let together : turned 14 18 (turned 11 21 x) ≡ turned 25 7 x = omega arith in
    ap (λ (y : ℕ). rotate_right w32 y 18) (by_21 x fits) ∙ by_18 (turned 11 21 x) (omega arith) ∙ together ∙ sym (by_7 x fits)

then_30_19 : (x : ℕ) → x < 2 ^ 32 → rotate_right w32 (rotate_right w32 x 30) 19 ≡ rotate_right w32 x 17
then_30_19 x fits =
    let together : turned 13 19 (turned 2 30 x) ≡ turned 15 17 x = omega arith in
    ap (λ (y : ℕ). rotate_right w32 y 19) (by_30 x fits) ∙ by_19 (turned 2 30 x) (omega arith) ∙ together ∙ sym (by_17 x fits)

pub big_sigma0-nested : (x : ℕ) → x < 2 ^ 32
    → rotate_right w32 (bit_xor x (rotate_right w32 (bit_xor x (rotate_right w32 x 21)) 23)) 22 ≡ big_sigma0 x
big_sigma0-nested x fits =
    nested_three (λ y. rotate_right w32 y 21) (λ y. rotate_right w32 y 23) (λ y. rotate_right w32 y 22) turn_21 turn_23 turn_22 x fits
    ∙ ap₂ (λ (l r : ℕ). bit_xor (bit_xor l r) (rotate_right w32 x 22))
    (ap (λ (y : ℕ). rotate_right w32 y 22) (then_21_23 x fits) ∙ then_12_22 x fits) (then_23_22 x fits)

pub big_sigma1-nested : (x : ℕ) → x < 2 ^ 32
    → rotate_right w32 (bit_xor x (rotate_right w32 (bit_xor x (rotate_right w32 x 27)) 18)) 25 ≡ big_sigma1 x
big_sigma1-nested x fits =
    nested_three (λ y. rotate_right w32 y 27) (λ y. rotate_right w32 y 18) (λ y. rotate_right w32 y 25) turn_27 turn_18 turn_25 x fits
    ∙ ap₂ (λ (l r : ℕ). bit_xor (bit_xor l r) (rotate_right w32 x 25))
    (ap (λ (y : ℕ). rotate_right w32 y 25) (then_27_18 x fits) ∙ then_13_25 x fits) (then_18_25 x fits)

pub small_sigma0-nested : (x : ℕ) → x < 2 ^ 32
    → bit_xor (rotate_right w32 (bit_xor x (rotate_right w32 x 21)) 18) (x / 2 ^ 3) ≡ small_sigma0 x
small_sigma0-nested x fits =
    ap (λ (y : ℕ). bit_xor y (x / 2 ^ 3)) (nested_two (λ y. rotate_right w32 y 21) (λ y. rotate_right w32 y 18) turn_21 turn_18 x fits
    ∙ ap (λ (y : ℕ). bit_xor y (rotate_right w32 x 18)) (then_21_18 x fits))

pub small_sigma1-nested : (x : ℕ) → x < 2 ^ 32
    → bit_xor (rotate_right w32 (bit_xor x (rotate_right w32 x 30)) 19) (x / 2 ^ 10) ≡ small_sigma1 x
small_sigma1-nested x fits =
    ap (λ (y : ℕ). bit_xor y (x / 2 ^ 10)) (nested_two (λ y. rotate_right w32 y 30) (λ y. rotate_right w32 y 19) turn_30 turn_19 x fits
    ∙ ap (λ (y : ℕ). bit_xor y (rotate_right w32 x 19)) (then_30_19 x fits))
