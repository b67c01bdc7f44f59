-- The words of the block of a step.
use Rattle.std.proofs.Common.{◌≡◌, ◌≢◌, ◌∙◌, ℕ, zero, suc, ◌+◌, ◌*◌, ◌/◌, ◌%◌, ◌^◌, ◌<◌, ◌≤◌, List, [], ◌∷◌, ◌++◌, length, take, slice_index, slice_index_or, slice_set, get_or, bit_or, arith, ap, ap₂, sym, refl, subst}
use Rattle.std.specs.Int.{w16, w32, to_be_bytes}
use Rattle.std.proofs.lemmas.List.{append_assoc, length-append, get_or_append_left, get_or-append-add, take_more, take_all}
use Rattle.std.proofs.lemmas.Nat.{or_shifted, be_bytes_4, from_be_bytes-to_be_bytes_4}
use Rattle.sha2.specs.Sha256.{compress, digest_bytes, hash_after, initial_hash_256, padded_message, padding, sha256, word_at}
use Rattle.hash_lanes.specs.Lanes.{lane_of, step_text, value_in, values_in}
use Rattle.hash_lanes.specs.Words.{BeginsWith, HasWords}
use Rattle.hash_lanes.proofs.LaneLemmas.{each_of_four, each_of_sixteen, slice_index-lane_of}

-- the low three bytes of a word and the high byte of the next
pub joined_words : (first next : ℕ) → next < 2 ^ 32
    → bit_or (first * 2 ^ 8 % 2 ^ 32) (next / 2 ^ 24) ≡ word_at (to_be_bytes w32 first ++ to_be_bytes w32 next) 1
joined_words first next fits =
    let moved : first * 2 ^ 8 % 2 ^ 32 ≡ first % 2 ^ 24 * 2 ^ 8 = omega arith in
    ap (λ n. bit_or n (next / 2 ^ 24)) moved ∙ or_shifted (first % 2 ^ 24) 8 (next / 2 ^ 24) (omega arith) ∙ omega arith

-- the two bytes of a number, a byte, and the high byte of a word
pub joined_numbers : (chain step value : ℕ) → value < 2 ^ 32
    → bit_or (word_at (to_be_bytes w16 chain ++ step ∷ 0 ∷ []) 0) (value / 2 ^ 24)
    ≡ word_at (to_be_bytes w16 chain ++ step ∷ to_be_bytes w32 value) 0
joined_numbers chain step value fits =
    let ahead = chain / 2 ^ 8 % 2 ^ 8 * 2 ^ 16 + chain % 2 ^ 8 * 2 ^ 8 + step in
    let shifted : word_at (to_be_bytes w16 chain ++ step ∷ 0 ∷ []) 0 ≡ ahead * 2 ^ 8 = omega arith in
    ap (λ n. bit_or n (value / 2 ^ 24)) shifted ∙ or_shifted ahead 8 (value / 2 ^ 24) (omega arith) ∙ omega arith

-- a word that stands in the first of two lists, and one that stands in the second
word_at_front : (a b : List ℕ) (j : ℕ) → j + 4 ≤ length a → word_at (a ++ b) j ≡ word_at a j
word_at_front a b j room =
    rw (
      get_or_append_left a b 0 j (omega arith),
      get_or_append_left a b 0 (j + 1) (omega arith),
      get_or_append_left a b 0 (j + 2) (omega arith),
      get_or_append_left a b 0 (j + 3) (omega arith),
    ) refl

byte_behind : (a b : List ℕ) (n j k : ℕ) → length a ≡ n → k ≡ n + j → slice_index (a ++ b) k ≡ slice_index b j
byte_behind a b n j k long place =
    let at : k ≡ length a + j = omega arith in
    ap (slice_index (a ++ b)) at ∙ get_or-append-add a b j 0

word_at_behind : (a b : List ℕ) (n j : ℕ) → length a ≡ n → word_at (a ++ b) (n + j) ≡ word_at b j
word_at_behind a b n j long =
    rw (
      byte_behind a b n j (n + j) long (omega arith),
      byte_behind a b n (j + 1) (n + j + 1) long (omega arith),
      byte_behind a b n (j + 2) (n + j + 2) long (omega arith),
      byte_behind a b n (j + 3) (n + j + 3) long (omega arith),
    ) refl

-- what stands behind I in the block of a step
abbrev behind_id : ℕ → ℕ → ℕ → List ℕ → List ℕ
behind_id leaf chain step value = to_be_bytes w32 leaf ++ (to_be_bytes w16 chain ++ step ∷ value) ++ padding 55

pub length-step_text : (id : List ℕ) (leaf chain step : ℕ) (value : List ℕ) → length id ≡ 16 → length value ≡ 32
    → length (step_text id leaf chain step value) ≡ 55
length-step_text id leaf chain step value sixteen thirty_two =
    omega (arith, length-append id (to_be_bytes w32 leaf ++ (to_be_bytes w16 chain ++ step ∷ value)))

padded-step_text : (id : List ℕ) (leaf chain step : ℕ) (value : List ℕ) → length id ≡ 16 → length value ≡ 32
    → padded_message (step_text id leaf chain step value) ≡ id ++ behind_id leaf chain step value
padded-step_text id leaf chain step value sixteen thirty_two =
    ap (λ n. step_text id leaf chain step value ++ padding n) (length-step_text id leaf chain step value sixteen thirty_two)
    ∙ append_assoc id (to_be_bytes w32 leaf ++ (to_be_bytes w16 chain ++ step ∷ value)) (padding 55)

-- a value in a lane has 32 bytes
pub length-value_in : (vs : List (List ℕ)) (i : ℕ) → length (value_in vs i) ≡ 32
unfolding digest_bytes
length-value_in vs i = refl

-- the sixteen words of a block, each as it is made
pub text_has_words : (id : List ℕ) (leaf chain step : ℕ) (vs : List (List ℕ)) (i : ℕ)
    (w0 w1 w2 w3 w4 w5 w6 w7 w8 w9 w10 w11 w12 w13 w14 w15 : ℕ) → length id ≡ 16 → leaf < 2 ^ 32
    → w0 ≡ word_at id 0 → w1 ≡ word_at id 4 → w2 ≡ word_at id 8 → w3 ≡ word_at id 12 → w4 ≡ leaf
    → w5 ≡ word_at (to_be_bytes w16 chain ++ step ∷ to_be_bytes w32 (slice_index (slice_index_or vs 0 []) i)) 0
    → w6 ≡ word_at (to_be_bytes w32 (slice_index (slice_index_or vs 0 []) i) ++ to_be_bytes w32 (slice_index (slice_index_or vs 1 []) i)) 1
    → w7 ≡ word_at (to_be_bytes w32 (slice_index (slice_index_or vs 1 []) i) ++ to_be_bytes w32 (slice_index (slice_index_or vs 2 []) i)) 1
    → w8 ≡ word_at (to_be_bytes w32 (slice_index (slice_index_or vs 2 []) i) ++ to_be_bytes w32 (slice_index (slice_index_or vs 3 []) i)) 1
    → w9 ≡ word_at (to_be_bytes w32 (slice_index (slice_index_or vs 3 []) i) ++ to_be_bytes w32 (slice_index (slice_index_or vs 4 []) i)) 1
    → w10 ≡ word_at (to_be_bytes w32 (slice_index (slice_index_or vs 4 []) i) ++ to_be_bytes w32 (slice_index (slice_index_or vs 5 []) i)) 1
    → w11 ≡ word_at (to_be_bytes w32 (slice_index (slice_index_or vs 5 []) i) ++ to_be_bytes w32 (slice_index (slice_index_or vs 6 []) i)) 1
    → w12 ≡ word_at (to_be_bytes w32 (slice_index (slice_index_or vs 6 []) i) ++ to_be_bytes w32 (slice_index (slice_index_or vs 7 []) i)) 1
    → w13 ≡ word_at (to_be_bytes w32 (slice_index (slice_index_or vs 7 []) i) ++ to_be_bytes w32 0x80000000) 1
    → w14 ≡ 0 → w15 ≡ 440
    → HasWords (w0 ∷ w1 ∷ w2 ∷ w3 ∷ w4 ∷ w5 ∷ w6 ∷ w7 ∷ w8 ∷ w9 ∷ w10 ∷ w11 ∷ w12 ∷ w13 ∷ w14 ∷ w15 ∷ [])
    (padded_message (step_text id leaf chain step (value_in vs i)))
unfolding digest_bytes
text_has_words id leaf chain step vs i w0 w1 w2 w3 w4 w5 w6 w7 w8 w9 w10 w11 w12 w13 w14 w15 sixteen small
    e0 e1 e2 e3 e4 e5 e6 e7 e8 e9 e10 e11 e12 e13 e14 e15 =
    let v = λ (k : ℕ). sym (slice_index-lane_of vs i k) in
    let value = value_in vs i in
    let rest = behind_id leaf chain step value in
    let front = word_at_front id rest in
    let back = λ (j : ℕ). sym (word_at_behind id rest 16 j sixteen) in
    let both = λ (x y : ℕ). word_at (to_be_bytes w32 x ++ to_be_bytes w32 y) 1 in
    let words = w0 ∷ w1 ∷ w2 ∷ w3 ∷ w4 ∷ w5 ∷ w6 ∷ w7 ∷ w8 ∷ w9 ∷ w10 ∷ w11 ∷ w12 ∷ w13 ∷ w14 ∷ w15 ∷ [] in
    let has : HasWords words (id ++ rest) = record {
      count = refl;
      each = each_of_sixteen (λ k. slice_index words k ≡ word_at (id ++ rest) (4 * k))
          (e0 ∙ sym (front 0 (omega arith)))
          (e1 ∙ sym (front 4 (omega arith)))
          (e2 ∙ sym (front 8 (omega arith)))
          (e3 ∙ sym (front 12 (omega arith)))
          (e4 ∙ sym (from_be_bytes-to_be_bytes_4 leaf small) ∙ back 0)
          (e5 ∙ ap (λ x. word_at (to_be_bytes w16 chain ++ step ∷ to_be_bytes w32 x) 0) (v 0) ∙ back 4)
          (e6 ∙ ap₂ both (v 0) (v 1) ∙ back 8)
          (e7 ∙ ap₂ both (v 1) (v 2) ∙ back 12)
          (e8 ∙ ap₂ both (v 2) (v 3) ∙ back 16)
          (e9 ∙ ap₂ both (v 3) (v 4) ∙ back 20)
          (e10 ∙ ap₂ both (v 4) (v 5) ∙ back 24)
          (e11 ∙ ap₂ both (v 5) (v 6) ∙ back 28)
          (e12 ∙ ap₂ both (v 6) (v 7) ∙ back 32)
          (e13 ∙ ap (λ x. both x 0x80000000) (v 7) ∙ back 36)
          (e14 ∙ back 40)
          (e15 ∙ back 44);
    } in
    subst (HasWords words) (sym (padded-step_text id leaf chain step value sixteen refl)) has

-- a message of 55 bytes is hashed in one block
pub sha256-one_block : (m : List ℕ) → length m ≡ 55 → sha256 m ≡ digest_bytes (compress initial_hash_256 (padded_message m)) 8
unfolding sha256 hash_after
sha256-one_block m long =
    let whole : length (padded_message m) ≡ 64 = omega (arith, length-append m (padding (length m)), ap (λ n. length (padding n)) long) in
    ap (λ n. digest_bytes (hash_after initial_hash_256 (padded_message m) n) 8) (ap (λ n. n / 64) whole)
    ∙ ap (λ b. digest_bytes (compress initial_hash_256 b) 8) (take_all 64 (padded_message m) (omega arith))

-- the value in lane i is value i
pub value_at : (vs : List (List ℕ)) (i : ℕ) → i < 4 → slice_index_or (values_in vs) i [] ≡ value_in vs i
unfolding values_in
value_at vs = each_of_four (λ i. slice_index_or (values_in vs) i [] ≡ value_in vs i) refl refl refl refl

-- the words of a lane decide its bytes
digest_bytes-same : (g h : List ℕ) (n : ℕ) → ((k : ℕ) → k < n → slice_index g k ≡ slice_index h k) → digest_bytes g n ≡ digest_bytes h n
unfolding digest_bytes
digest_bytes-same g h zero each = refl
digest_bytes-same g h (suc n) each =
    ap₂ (λ (l : List ℕ) (w : ℕ). l ++ to_be_bytes w32 w) (digest_bytes-same g h n (λ k below. each k (omega arith))) (each n (omega arith))

take_next : (value : List ℕ) (n m : ℕ) → m ≡ n + 1 → n < length value → take m value ≡ take n value ++ slice_index value n ∷ []
take_next value n m next room = rw next (take_more value n 0 room)

-- four bytes more of a list
take_word : (value : List ℕ) (n : ℕ) → n + 4 ≤ length value → take (n + 4) value
    ≡ take n value ++ (slice_index value n ∷ slice_index value (n + 1) ∷ slice_index value (n + 2) ∷ slice_index value (n + 3) ∷ [])
take_word value n room =
    let a = slice_index value n ∷ [] in
    let b = slice_index value (n + 1) ∷ [] in
    let c = slice_index value (n + 2) ∷ [] in
    let d = slice_index value (n + 3) ∷ [] in
    take_next value (n + 3) (n + 4) (omega arith) (omega arith)
    ∙ ap (λ l. l ++ d) (take_next value (n + 2) (n + 3) (omega arith) (omega arith)
    ∙ ap (λ l. l ++ c) (take_next value (n + 1) (n + 2) (omega arith) (omega arith)
    ∙ ap (λ l. l ++ b) (take_next value n (n + 1) (omega arith) (omega arith))))
    ∙ append_assoc ((take n value ++ a) ++ b) c d ∙ append_assoc (take n value ++ a) b (c ++ d) ∙ append_assoc (take n value) a (b ++ (c ++ d))

four_small : (a b c d : ℕ) → a < 256 → b < 256 → c < 256 → d < 256 → (i : ℕ) → get_or (a ∷ b ∷ c ∷ d ∷ []) i 0 < 256
four_small a b c d sa sb sc sd zero = sa
four_small a b c d sa sb sc sd (suc zero) = sb
four_small a b c d sa sb sc sd (suc (suc zero)) = sc
four_small a b c d sa sb sc sd (suc (suc (suc zero))) = sd
four_small a b c d sa sb sc sd (suc (suc (suc (suc i)))) = omega arith

-- the bytes of words that are those of a list
digest_bytes-take : (h value : List ℕ) (n : ℕ) → 4 * n ≤ length value → ((k : ℕ) → slice_index value k < 256)
    → ((k : ℕ) → k < n → slice_index h k ≡ word_at value (4 * k)) → digest_bytes h n ≡ take (4 * n) value
unfolding digest_bytes
digest_bytes-take h value zero room small each = refl
digest_bytes-take h value (suc n) room small each =
    let place = 4 * n in
    let bytes = slice_index value place ∷ slice_index value (place + 1) ∷ slice_index value (place + 2) ∷ slice_index value (place + 3) ∷ [] in
    let next : 4 * suc n ≡ place + 4 = omega arith in
    let word : to_be_bytes w32 (slice_index h n) ≡ bytes =
    be_bytes_4 bytes (slice_index h n) refl (four_small _ _ _ _ (small place) (small (place + 1)) (small (place + 2)) (small (place + 3))) (each n (omega arith)) in
    ap₂ (λ (l r : List ℕ). l ++ r) (digest_bytes-take h value n (omega arith) small (λ k below. each k (omega arith))) word
    ∙ sym (take_word value place (omega arith))
    ∙ ap (λ m. take m value) (sym next)

-- the value of a lane whose words are those of a list
pub value_in_words : (vs : List (List ℕ)) (lane : ℕ) (value : List ℕ) → length value ≡ 32 → ((k : ℕ) → slice_index value k < 256)
    → ((k : ℕ) → k < 8 → slice_index (slice_index_or vs k []) lane ≡ word_at value (4 * k)) → value_in vs lane ≡ value
value_in_words vs lane value long small each =
    digest_bytes-take (lane_of vs lane) value 8 (omega arith) small (λ k below. slice_index-lane_of vs lane k ∙ each k below)
    ∙ take_all 32 value (omega arith)

value_in-same : (vs ws : List (List ℕ)) (i : ℕ) → ((k : ℕ) → k < 8 → slice_index (slice_index_or vs k []) i ≡ slice_index (slice_index_or ws k []) i)
    → value_in vs i ≡ value_in ws i
value_in-same vs ws i each =
    digest_bytes-same (lane_of vs i) (lane_of ws i) 8
    (λ k below. slice_index-lane_of vs i k ∙ each k below ∙ sym (slice_index-lane_of ws i k))

-- one value is put among four
pub values_in-put : (vs ws : List (List ℕ)) (lane : ℕ) (value : List ℕ) → lane < 4 → length value ≡ 32 → ((k : ℕ) → slice_index value k < 256)
    → ((k : ℕ) → k < 8 → slice_index (slice_index_or ws k []) lane ≡ word_at value (4 * k))
    → ((k i : ℕ) → k < 8 → i ≢ lane → slice_index (slice_index_or ws k []) i ≡ slice_index (slice_index_or vs k []) i)
    → values_in ws ≡ slice_set (values_in vs) lane value
unfolding values_in
values_in-put vs ws lane value below long small there others =
    each_of_four (λ n. (value_in ws n ≡ value) → ((i : ℕ) → i ≢ n → value_in ws i ≡ value_in vs i) → values_in ws ≡ slice_set (values_in vs) n value)
    (λ t o. rw (t, o 1 (omega arith), o 2 (omega arith), o 3 (omega arith)) refl)
    (λ t o. rw (o 0 (omega arith), t, o 2 (omega arith), o 3 (omega arith)) refl)
    (λ t o. rw (o 0 (omega arith), o 1 (omega arith), t, o 3 (omega arith)) refl)
    (λ t o. rw (o 0 (omega arith), o 1 (omega arith), o 2 (omega arith), t) refl)
    lane below (value_in_words ws lane value long small there) (λ i apart. value_in-same ws vs i (λ k within. others k i within apart))

-- four lists are those of a list of four
pub four_of : (xs : List (List ℕ)) → length xs ≡ 4
    → slice_index_or xs 0 [] ∷ slice_index_or xs 1 [] ∷ slice_index_or xs 2 [] ∷ slice_index_or xs 3 [] ∷ [] ≡ xs
four_of (a ∷ b ∷ c ∷ d ∷ []) long = refl
four_of [] long = absurd (omega arith)
four_of (a ∷ []) long = absurd (omega arith)
four_of (a ∷ b ∷ []) long = absurd (omega arith)
four_of (a ∷ b ∷ c ∷ []) long = absurd (omega arith)
four_of (a ∷ b ∷ c ∷ d ∷ e ∷ xs) long = absurd (omega arith)

-- the value that was put
pub put_here : (vs : List (List ℕ)) (lane : ℕ) (value : List ℕ) → lane < 4 → slice_index_or (slice_set (values_in vs) lane value) lane [] ≡ value
unfolding values_in
put_here vs lane value = each_of_four (λ n. slice_index_or (slice_set (values_in vs) n value) n [] ≡ value) refl refl refl refl lane

-- a block begins with the words of I and the number of the leaf
pub text_begins : (id : List ℕ) (leaf chain step : ℕ) (value : List ℕ) (w0 w1 w2 w3 : ℕ) → length id ≡ 16 → leaf < 2 ^ 32 → length value ≡ 32
    → w0 ≡ word_at id 0 → w1 ≡ word_at id 4 → w2 ≡ word_at id 8 → w3 ≡ word_at id 12
    → BeginsWith (padded_message (step_text id leaf chain step value)) (w0 ∷ w1 ∷ w2 ∷ w3 ∷ []) leaf
text_begins id leaf chain step value w0 w1 w2 w3 sixteen small thirty_two e0 e1 e2 e3 =
    let rest = behind_id leaf chain step value in
    let front = word_at_front id rest in
    let words = w0 ∷ w1 ∷ w2 ∷ w3 ∷ [] in
    let begins : BeginsWith (id ++ rest) words leaf = record {
      id_words = each_of_four (λ k. word_at (id ++ rest) (4 * k) ≡ slice_index words k)
          (front 0 (omega arith) ∙ sym e0)
          (front 4 (omega arith) ∙ sym e1)
          (front 8 (omega arith) ∙ sym e2)
          (front 12 (omega arith) ∙ sym e3);
      leaf_word = word_at_behind id rest 16 0 sixteen ∙ from_be_bytes-to_be_bytes_4 leaf small;
    } in
    subst (λ b. BeginsWith b words leaf) (sym (padded-step_text id leaf chain step value sixteen thirty_two)) begins
