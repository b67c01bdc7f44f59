-- When the byte at a place is wrong, told by how many bytes of its label stand before it.
use Rattle.std.proofs.Common.{◌≡◌, ℕ, zero, suc, ◌+◌, ◌-◌, ◌<◌, ◌≤◌, ◌⊎◌, Bool, true, false, ◌||◌, eqb, leb, List, [], ◌∷◌, length, get_or, take, drop, refl, ◌∙◌, arith, inl, inr}
use Rattle.std.specs.List.{list_any}
use Rattle.std.proofs.lemmas.Bool.{cases_lt, cases_eq, eq-eqb, ne_eqb, le-leb, lt-leb}
use Rattle.std.proofs.lemmas.List.{length-take, length-drop, get_or-take, get_or-drop}
use Rattle.std.proofs.lemmas.List.Folds.{list_any_at}
use Rattle.std.proofs.Math.Bool.{or-false}
use Rattle.ar_names.specs.Names.{dot, is_label_byte, is_first_in_label, is_after_full_label, is_wrong_at, StandBefore}

none_of : (p : ℕ → Bool) (xs : List ℕ) → ((i : ℕ) → i < length xs → p (get_or xs i 0) ≡ false) → list_any p xs ≡ false
none_of p [] none = refl
none_of p (x ∷ xs) none = rw (none 0 (omega arith), none_of p xs (λ i lt. none (suc i) (omega arith))) refl

first_at : (text : List ℕ) (k n : ℕ) → StandBefore text k n → is_first_in_label text k ≡ eqb n 0
first_at text zero n s = let none : n ≡ 0 = omega (arith, s.within) in rw none refl
first_at text (suc k) zero s =
    let same : suc k - (0 + 1) ≡ k = omega arith in
    let one : suc k - 1 ≡ k = omega arith in
    let later : eqb (suc k) 0 ≡ false = ne_eqb (suc k) 0 (λ e. omega arith) in
    rw (later, one) (eq-eqb (get_or text k 0) dot (rw same at (s.whole_label (omega arith))))
first_at text (suc k) (suc n) s =
    let one : suc k - 1 ≡ k = omega arith in
    let later : eqb (suc k) 0 ≡ false = ne_eqb (suc k) 0 (λ e. omega arith) in
    let more : eqb (suc n) 0 ≡ false = ne_eqb (suc n) 0 (λ e. omega arith) in
    rw (later, more, one) (ne_eqb (get_or text k 0) dot (s.same_label k (omega (arith, s.within)) (omega arith)))

-- the 63 bytes before place k
abbrev window : List ℕ → ℕ → List ℕ
window text k = take (k - (k - 63)) (drop (k - 63) text)

length-window : (text : List ℕ) (k : ℕ) → 63 ≤ k → k < length text → length (window text k) ≡ 63
length-window text k le inside = omega (arith, length-take (k - (k - 63)) (drop (k - 63) text), length-drop (k - 63) text)

get_or-window : (text : List ℕ) (k i j : ℕ) → 63 ≤ k → i < 63 → k - 63 + i ≡ j → get_or (window text k) i 0 ≡ get_or text j 0
get_or-window text k i j le lt is = rw (get_or-take (k - (k - 63)) (drop (k - 63) text) i 0 (omega arith), get_or-drop (k - 63) text i 0, is) refl

is_dot : ℕ → Bool
is_dot c = eqb c 46

full_at : (text : List ℕ) (k n : ℕ) → k < length text → StandBefore text k n → is_after_full_label text k ≡ leb 63 n
full_at text k n inside s =
    elim (cases_lt n 63) [
      | inl short ↦ elim (cases_lt k 63) [
        | inl near ↦ rw (lt-leb 63 k near, lt-leb 63 n short) refl
        | inr far ↦
            let at : get_or (window text k) (62 - n) 0 ≡ dot = get_or-window text k (62 - n) (k - (n + 1)) far (omega arith) (omega arith) ∙ s.whole_label (omega arith) in
            let some : list_any (λ c. eqb c dot) (window text k) ≡ true = list_any_at (λ c. eqb c dot) (window text k) (62 - n) 0 (omega (arith, length-window text k far inside)) (eq-eqb _ _ at) in
            rw (some, le-leb 63 k far, lt-leb 63 n short) refl
      ]
      | inr long ↦
          let far : 63 ≤ k = omega (arith, s.within) in
          let none : list_any (λ c. eqb c dot) (window text k) ≡ false = none_of (λ c. eqb c dot) (window text k) (λ i lt. let small : i < 63 = omega (arith, length-window text k far inside) in rw (get_or-window text k i (k - 63 + i) far small refl) (ne_eqb (get_or text (k - 63 + i) 0) dot (s.same_label (k - 63 + i) (omega arith) (omega arith)))) in
          rw (none, le-leb 63 k far, le-leb 63 n long) refl
    ]

pub too_far : (text : List ℕ) (k : ℕ) → 253 ≤ k → is_wrong_at text k ≡ true
unfolding is_wrong_at
too_far text k far = rw (le-leb 253 k far) refl

pub at_dot : (text : List ℕ) (k n : ℕ) → k < 253 → get_or text k 0 ≡ 46 → StandBefore text k n → is_wrong_at text k ≡ (eqb n 0 || eqb (get_or text (k - 1) 0) 45)
unfolding is_wrong_at
at_dot text k zero near is s = rw (is, lt-leb 253 k near, first_at text k 0 s) refl
at_dot text k (suc n) near is s =
    let later : eqb k 0 ≡ false = ne_eqb k 0 (λ e. omega (arith, s.within)) in
    let more : eqb (suc n) 0 ≡ false = ne_eqb (suc n) 0 (λ e. omega arith) in
    rw (is, lt-leb 253 k near, first_at text k (suc n) s, later, more) (or-false (eqb (get_or text (k - 1) 0) 45))

pub at_dash : (text : List ℕ) (k n : ℕ) → k < 253 → k < length text → get_or text k 0 ≡ 45 → StandBefore text k n → is_wrong_at text k ≡ (eqb n 0 || leb 63 n)
unfolding is_wrong_at
at_dash text k zero near inside is s = rw (is, lt-leb 253 k near, first_at text k 0 s) refl
at_dash text k (suc n) near inside is s =
    let more : eqb (suc n) 0 ≡ false = ne_eqb (suc n) 0 (λ e. omega arith) in
    rw (is, lt-leb 253 k near, first_at text k (suc n) s, full_at text k (suc n) inside s, more) refl

pub at_letter : (text : List ℕ) (k n : ℕ) → k < 253 → k < length text → is_label_byte (get_or text k 0) ≡ true → (get_or text k 0 ≡ 45 → ⊥) → (get_or text k 0 ≡ 46 → ⊥) → StandBefore text k n → is_wrong_at text k ≡ leb 63 n
unfolding is_wrong_at
at_letter text k n near inside is no_dash no_dot s = rw (is, lt-leb 253 k near, ne_eqb _ _ no_dash, ne_eqb _ _ no_dot, full_at text k n inside s) refl

pub at_other : (text : List ℕ) (k : ℕ) → k < 253 → is_label_byte (get_or text k 0) ≡ false → (get_or text k 0 ≡ 46 → ⊥) → is_wrong_at text k ≡ true
unfolding is_wrong_at
at_other text k near is no_dot = rw (is, lt-leb 253 k near, ne_eqb _ _ no_dot) refl

-- a dot after a label's bytes, told by the byte before it
pub at_later_dot : (text : List ℕ) (k n : ℕ) → k < 253 → get_or text k 0 ≡ 46 → (n ≡ 0 → ⊥) → StandBefore text k n → is_wrong_at text k ≡ eqb (get_or text (k - 1) 0) 45
at_later_dot text k n near is more s = at_dot text k n near is s ∙ rw (ne_eqb n 0 more) refl

-- a dot or `-` that begins a label
pub at_first : (text : List ℕ) (k n : ℕ) → k < 253 → k < length text → (get_or text k 0 ≡ 46) ⊎ (get_or text k 0 ≡ 45) → n ≡ 0 → StandBefore text k n → is_wrong_at text k ≡ eqb n 0
at_first text k n near inside is none s =
    elim is [
      | inl d ↦ at_dot text k n near d s ∙ rw none refl
      | inr h ↦ at_dash text k n near inside h s ∙ rw none refl
    ]

pub at_later_dash : (text : List ℕ) (k n : ℕ) → k < 253 → k < length text → get_or text k 0 ≡ 45 → (n ≡ 0 → ⊥) → StandBefore text k n → is_wrong_at text k ≡ leb 63 n
at_later_dash text k n near inside is more s = at_dash text k n near inside is s ∙ rw (ne_eqb n 0 more) refl

pub at_small : (text : List ℕ) (k n : ℕ) → k < 253 → k < length text → 97 ≤ get_or text k 0 → get_or text k 0 ≤ 122 → StandBefore text k n → is_wrong_at text k ≡ leb 63 n
at_small text k n near inside low high s =
    at_letter text k n near inside (rw (le-leb 97 _ low, le-leb _ 122 high) refl) (λ e. omega arith) (λ e. omega arith) s

pub at_digit : (text : List ℕ) (k n : ℕ) → k < 253 → k < length text → 48 ≤ get_or text k 0 → get_or text k 0 ≤ 57 → StandBefore text k n → is_wrong_at text k ≡ leb 63 n
at_digit text k n near inside low high s =
    let c = get_or text k 0 in
    let early : leb 97 c ≡ false = lt-leb 97 c (omega arith) in
    at_letter text k n near inside (rw (early, le-leb 48 c low, le-leb c 57 high) refl) (λ e. omega arith) (λ e. omega arith) s

pub at_low : (text : List ℕ) (k : ℕ) → k < 253 → get_or text k 0 < 48 → (get_or text k 0 ≡ 45 → ⊥) → (get_or text k 0 ≡ 46 → ⊥) → is_wrong_at text k ≡ true
at_low text k near high no_dash no_dot =
    let c = get_or text k 0 in
    at_other text k near (rw (lt-leb 97 c (omega arith), lt-leb 48 c high, ne_eqb c 45 no_dash) refl) no_dot

pub at_middle : (text : List ℕ) (k : ℕ) → k < 253 → 57 < get_or text k 0 → get_or text k 0 < 97 → is_wrong_at text k ≡ true
at_middle text k near low high =
    let c = get_or text k 0 in
    at_other text k near (rw (lt-leb 97 c high, le-leb 48 c (omega arith), lt-leb c 57 low, ne_eqb c 45 (λ e. omega arith)) refl) (λ e. omega arith)

pub at_high : (text : List ℕ) (k : ℕ) → k < 253 → 122 < get_or text k 0 → is_wrong_at text k ≡ true
at_high text k near low =
    let c = get_or text k 0 in
    at_other text k near (rw (le-leb 97 c (omega arith), lt-leb c 122 low, le-leb 48 c (omega arith), lt-leb c 57 (omega arith), ne_eqb c 45 (λ e. omega arith)) refl) (λ e. omega arith)

pub ruleset wrong_places = (too_far, at_later_dot, at_first, at_later_dash, at_small, at_digit, at_low, at_middle, at_high)

-- ---- from one place to the next

pub none_before : (text : List ℕ) → StandBefore text 0 0
none_before text = record { within = omega arith; same_label = λ i le lt. absurd (omega arith); whole_label = λ lt. absurd (omega arith) }

pub after_dot : (text : List ℕ) (k : ℕ) → get_or text k 0 ≡ 46 → StandBefore text (k + 1) 0
after_dot text k is =
    let same : k + 1 - (0 + 1) ≡ k = omega arith in
    record { within = omega arith; same_label = λ i le lt. absurd (omega arith); whole_label = λ lt. rw same is }

pub after_other : (text : List ℕ) (k n : ℕ) → (get_or text k 0 ≡ 46 → ⊥) → StandBefore text k n → StandBefore text (k + 1) (n + 1)
after_other text k n no_dot s =
    let same : k + 1 - (n + 1 + 1) ≡ k - (n + 1) = omega arith in
    record {
      within = omega (arith, s.within);
      same_label = λ i le lt. elim (cases_eq i k) [ inl e ↦ rw e no_dot | inr ne ↦ s.same_label i (omega arith) (omega arith) ];
      whole_label = λ lt. rw same (s.whole_label (omega arith));
    }
