-- The first place that a test passes is the least.
use Rattle.std.proofs.Common.{◌≡◌, ℕ, zero, suc, ◌+◌, ◌<◌, ◌≤◌, Bool, true, false, cond, List, length, get_or, Some, None, refl, ◌∙◌, ◌⊎◌, arith, inl, inr}
use Rattle.std.specs.List.{find, range_with_len}
use Rattle.std.proofs.lemmas.Bool.{cases_lt, cases_Bool}
use Rattle.std.specs.Str.{IsAscii}
use Rattle.std.proofs.lemmas.List.{get_or_past}
use Rattle.ar_names.proofs.Places.{too_far, at_high}
use Rattle.ar_names.specs.Names.{is_wrong_at, is_open, first_fault_of, IsName, NoneWrongBefore, IsFirstFault}

-- the least number from a to a + n that passes
find_least : (p : ℕ → Bool) (a n j : ℕ) → a ≤ j → j < a + n → ((k : ℕ) → a ≤ k → k < j → p k ≡ false) → p j ≡ true → find p (range_with_len a n) ≡ Some j
find_least p a zero j le lt below passes = absurd (omega arith)
find_least p a (suc n) j le lt below passes =
    elim (cases_lt a j) [
      | inl less ↦ rw (below a (omega arith) less) (find_least p (a + 1) n j (omega arith) (omega arith) (λ k ge. below k (omega arith)) passes)
      | inr ge ↦ let same : j ≡ a = omega arith in let here : p a ≡ true = rw (← same) passes in rw (here, same) refl
    ]

find_none : (p : ℕ → Bool) (a n : ℕ) → ((k : ℕ) → a ≤ k → k < a + n → p k ≡ false) → find p (range_with_len a n) ≡ None
find_none p a zero none = refl
find_none p a (suc n) none = rw (none a (omega arith) (omega arith)) (find_none p (a + 1) n (λ k ge lt. none k (omega arith) (omega arith)))

-- there is a least one, or there is none
record IsLeast (p : ℕ → Bool) (a n j : ℕ) : Type 0 where
  from : a ≤ j
  to : j < a + n
  below : (k : ℕ) → a ≤ k → k < j → p k ≡ false
  passes : p j ≡ true

find_cases : (p : ℕ → Bool) (a n : ℕ) → ((j : ℕ) × IsLeast p a n j) ⊎ ((k : ℕ) → a ≤ k → k < a + n → p k ≡ false)
find_cases p a zero = inr (λ k ge lt. absurd (omega arith))
find_cases p a (suc n) =
    elim (cases_Bool (p a)) [
      | inl here ↦ inl (a, record { from = omega arith; to = omega arith; below = λ k ge lt. absurd (omega arith); passes = here })
      | inr here ↦ elim (find_cases p (a + 1) n) [
        | inl found ↦ inl (
          found.0,
          record {
            from = omega (arith, found.1.from);
            to = omega (arith, found.1.to);
            below = λ k ge lt. elim (cases_lt a k) [ inl less ↦ found.1.below k (omega arith) lt | inr le ↦ let same : k ≡ a = omega arith in rw same here ];
            passes = found.1.passes;
          },
        )
        | inr none ↦ inr (λ k ge lt. elim (cases_lt a k) [ inl less ↦ none k (omega arith) (omega arith) | inr le ↦ let same : k ≡ a = omega arith in rw same here ])
      ]
    ]

-- ---- faults

pub fault_at : (text : List ℕ) (p : ℕ) → p < length text → NoneWrongBefore text p → is_wrong_at text p ≡ true → first_fault_of text ≡ Some p
unfolding first_fault_of
fault_at text p inside least wrong = rw (find_least (is_wrong_at text) 0 (length text) p (omega arith) (omega arith) (λ k ge. least k) wrong) refl

pub no_place : (text : List ℕ) → NoneWrongBefore text (length text) → first_fault_of text ≡ cond (is_open text) (Some (length text)) None
unfolding first_fault_of
no_place text none = rw (find_none (is_wrong_at text) 0 (length text) (λ k ge lt. none k (omega arith))) refl

pub end_is_fault : (text : List ℕ) → NoneWrongBefore text (length text) → is_open text ≡ true → first_fault_of text ≡ Some (length text)
end_is_fault text none opened = no_place text none ∙ rw opened refl

pub no_fault : (text : List ℕ) → NoneWrongBefore text (length text) → is_open text ≡ false → first_fault_of text ≡ None
no_fault text none closed = no_place text none ∙ rw closed refl

pub ruleset faults = (fault_at, end_is_fault, no_fault)

pub fault_is_least : (text : List ℕ) (p : ℕ) → first_fault_of text ≡ Some p → IsFirstFault text p
fault_is_least text p e =
    elim (find_cases (is_wrong_at text) 0 (length text)) [
      | inl found ↦
          let inside : found.0 < length text = omega (arith, found.1.to) in
          let least : NoneWrongBefore text found.0 = λ k lt. found.1.below k (omega arith) lt in
          let same : found.0 ≡ p = cc (fault_at text found.0 inside least found.1.passes) in
          rw (← same) (record { least = least; fault = inl (inside, found.1.passes) })
      | inr none ↦
          let least : NoneWrongBefore text (length text) = λ k lt. none k (omega arith) (omega arith) in
          let is = no_place text least in
          elim (cases_Bool (is_open text)) [
            | inl opened ↦
                let end : first_fault_of text ≡ Some (length text) = is ∙ rw opened refl in
                let same : length text ≡ p = cc in
                rw (← same) (record { least = least; fault = inr (refl, opened) })
            | inr closed ↦
                let end : first_fault_of text ≡ None = is ∙ rw closed refl in
                absurd cc
          ]
    ]

pub least_is_fault : (text : List ℕ) (p : ℕ) → IsFirstFault text p → first_fault_of text ≡ Some p
least_is_fault text p f =
    elim f.fault [
      | inl wrong ↦ fault_at text p wrong.0 f.least wrong.1
      | inr end ↦ let least : NoneWrongBefore text (length text) = rw (← end.0) f.least in no_place text least ∙ rw (end.1, end.0) refl
    ]

pub name_is_right : (text : List ℕ) → IsName text → NoneWrongBefore text (length text) × (is_open text ≡ false)
name_is_right text e =
    elim (find_cases (is_wrong_at text) 0 (length text)) [
      | inl found ↦
          let at = fault_at text found.0 (omega (arith, found.1.to)) (λ k lt. found.1.below k (omega arith) lt) found.1.passes in
          absurd cc
      | inr none ↦
          let least : NoneWrongBefore text (length text) = λ k lt. none k (omega arith) (omega arith) in
          let is = no_place text least in
          elim (cases_Bool (is_open text)) [
            | inl opened ↦ let end : first_fault_of text ≡ Some (length text) = is ∙ rw opened refl in absurd cc
            | inr closed ↦ (least, closed)
          ]
    ]

pub short : (text : List ℕ) → IsName text → (0 < length text) × (length text ≤ 253)
unfolding is_open
short text e =
    let right = name_is_right text e in
    let some : 0 < length text = elim (cases_lt 0 (length text)) [
      | inl lt ↦ lt
      | inr le ↦ let none : length text ≡ 0 = omega arith in
          let opened : is_open text ≡ true = rw none refl in absurd cc
    ] in
    let few : length text ≤ 253 = elim (cases_lt 253 (length text)) [
      | inl long ↦ let far = too_far text 253 (omega arith) in let near = right.0 253 long in absurd cc
      | inr le ↦ le
    ] in
    (some, few)

-- each byte of a name is one of ASCII
pub ascii : (text : List ℕ) → IsName text → IsAscii text
ascii text e k =
    elim (cases_lt k (length text)) [
      | inl inside ↦ elim (cases_lt (get_or text k 0) 128) [
        | inl low ↦ low
        | inr high ↦ let wrong = at_high text k (omega (arith, (short text e).1)) (omega arith) in let right = (name_is_right text e).0 k inside in absurd cc
      ]
      | inr past ↦ let none : get_or text k 0 ≡ 0 = get_or_past text k 0 past in omega arith
    ]
