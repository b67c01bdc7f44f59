-- Lists of entries with ascending numbers: one entry after another, what was put is read again, and what
-- is read is spelled so.
use Rattle.std.proofs.Common.{◌≡◌, ◌≢◌, ℕ, zero, suc, ◌+◌, ◌-◌, ◌^◌, ◌<◌, ◌≤◌, leb, ltb, nat_le, All, Bool, true, false, cond, ◌||◌, ◌==◌, List, [], ◌∷◌, ◌++◌, length, Ok, Err, refl, sym, ap, subst, ◌∙◌, append_assoc, add-one, arith}
use Rattle.std.specs.List.{flat_map, list_any}
use Rattle.std.proofs.lemmas.List.{append-nil}
use Rattle.std.proofs.lemmas.List.Elements.{All-head, All-tail}
use Rattle.std.proofs.lemmas.Bool.{and_parts, eq-eqb, le-leb, leb-false, leb-true, ltb-true}
use Rattle.std.specs.Int.{w16}
use Rattle.ar_base.specs.Adding.{placed}
use Rattle.ar_base.specs.Chaining.{◌>>=◌}
use Rattle.ar_base.proofs.Shown.{bind_ok, ok_is}
use Rattle.ar_bytes.specs.Reading.{Cursor, Reading, number_at}
use Rattle.ar_bytes.specs.RoundTrip.{Passes, ReadsBack, IsSpelledBy, number_text}
use Rattle.ar_bytes.specs.Ascending.{ascending_at, ascends, number_from, numbers_at, AreNumbers, Ascend, with_front, numbers_text}
use Rattle.ar_bytes.proofs.Steps.{between, Passes-then, Passes-first, Passes-second, AreBytes-behind}
use Rattle.ar_bytes.proofs.Passing.{number_again, number_pass, wide16}
use Rattle.ar_bytes.proofs.Parts.{such_that_again, such_that_pass}

-- ---- one entry after another

pub ascending-none : {A : Type 0} (number : A → ℕ) (entry : ℕ → Cursor → Reading A) (count least : ℕ) (at : Cursor) → count ≡ 0 → ascending_at number entry count least at ≡ Ok ([], at)
unfolding ascending_at
ascending-none number entry count least at e = rw e refl

pub ascending-more : {A : Type 0} (number : A → ℕ) (entry : ℕ → Cursor → Reading A) (count more least : ℕ) (at : Cursor) → count ≡ more + 1 → ascending_at number entry count least at ≡ (entry least at >>= λ first. with_front (first.0 ∷ []) (ascending_at number entry more (number first.0 + 1) first.1))
unfolding ascending_at
ascending-more number entry count more least at e = rw (e, add-one) refl

pub with_front-front : {A : Type 0} (front more : List A) (read : Reading (List A)) → with_front front (with_front more read) ≡ with_front (front ++ more) read
with_front-front front more (Ok x) = ap (λ l. Ok (l, x.1)) (sym (append_assoc front more x.0))
with_front-front front more (Err place) = refl

-- the loop's next entry
pub entry_more : {A : Type 0} (number : A → ℕ) (entry : ℕ → Cursor → Reading A) (front : List A) (count i least : ℕ) (at new : Cursor) (x : A) (all : Reading (List A)) → i < count → entry least at ≡ Ok (x, new) → with_front front (ascending_at number entry (count - i) least at) ≡ all → with_front (front ++ x ∷ []) (ascending_at number entry (count - (i + 1)) (number x + 1) new) ≡ all
entry_more {A} number entry front count i least at new x all lt read so_far =
    let rest = ascending_at number entry (count - (i + 1)) (number x + 1) new in
    let step = ascending-more number entry (count - i) (count - (i + 1)) least at (omega arith) in
    let here : ascending_at number entry (count - i) least at ≡ with_front (x ∷ []) rest = rw (step, read) refl in
    sym (with_front-front front (x ∷ []) rest) ∙ ap (λ (r : Reading (List A)). with_front front r) (sym here) ∙ so_far

-- the loop's entry that fails
pub entry_fails : {A : Type 0} (number : A → ℕ) (entry : ℕ → Cursor → Reading A) (front : List A) (count i least : ℕ) (at : Cursor) (place : ℕ) (all : Reading (List A)) → i < count → entry least at ≡ Err place → with_front front (ascending_at number entry (count - i) least at) ≡ all → all ≡ Err place
entry_fails {A} number entry front count i least at place all lt read so_far =
    let step = ascending-more number entry (count - i) (count - (i + 1)) least at (omega arith) in
    let here : ascending_at number entry (count - i) least at ≡ Err place = rw (step, read) refl in
    sym so_far ∙ ap (λ (r : Reading (List A)). with_front front r) here

-- the loop's end
pub entries_all : {A : Type 0} (number : A → ℕ) (entry : ℕ → Cursor → Reading A) (front : List A) (count i least : ℕ) (at : Cursor) (all : Reading (List A)) → count ≤ i → with_front front (ascending_at number entry (count - i) least at) ≡ all → all ≡ Ok (front, at)
entries_all {A} number entry front count i least at all le so_far =
    let here = ascending-none number entry (count - i) least at (omega arith) in
    sym so_far ∙ ap (λ (r : Reading (List A)). with_front front r) here ∙ ap (λ (l : List A). Ok (l, at)) (append-nil front)

pub ruleset list_steps = (entry_more, entry_fails, entries_all)

-- ---- texts

-- cursors with equal parts are equal
pub same-cursor : (a b : Cursor) → a.ahead ≡ b.ahead → a.place ≡ b.place → a ≡ b
same-cursor a b ahead place =
    ap (λ (l : List ℕ). let c : Cursor = record { ahead = l; place = a.place } in c) ahead
    ∙ ap (λ (k : ℕ). let c : Cursor = record { ahead = b.ahead; place = k } in c) place

-- a text of entries that is put is read again
pub ascending_again : {A : Type 0} (number : A → ℕ) (entry : ℕ → Cursor → Reading A) (text : A → List ℕ) (fits : A → Type 0) → ((least : ℕ) (x : A) → least ≤ number x → fits x → ReadsBack (entry least) x (text x)) → (count least : ℕ) (xs : List A) → length xs ≡ count → Ascend number fits least xs → ReadsBack (ascending_at number entry count least) xs (flat_map text xs)
ascending_again number entry text fits reads count least [] len ascend at new p = rw (ascending-none number entry count least at (sym len)) (ap (λ (c : Cursor). Ok ([], c)) (same-cursor at new p.bytes (omega (arith, p.place))))
ascending_again number entry text fits reads count least (x ∷ xs) len ascend at new p =
    let count_is : count ≡ length xs + 1 = omega (arith, len) in
    let mid = between at (text x) (flat_map text xs ++ new.ahead) in
    let first = reads least x ascend.0 ascend.1 at mid (Passes-first at new (text x) (flat_map text xs) p) in
    let rest = ascending_again number entry text fits reads (length xs) (number x + 1) xs refl ascend.2 mid new (Passes-second at new (text x) (flat_map text xs) p) in
    rw (ascending-more number entry count (length xs) least at count_is, first, rest) refl

-- entries that are read are spelled so, and ascend
pub ascending_pass : {A : Type 0} (number : A → ℕ) (entry : ℕ → Cursor → Reading A) (text : A → List ℕ) (fits : A → Type 0) → ((least : ℕ) → IsSpelledBy (entry least) text (λ x. (least ≤ number x) × fits x)) → (count least : ℕ) → IsSpelledBy (ascending_at number entry count least) (flat_map text) (λ xs. Ascend number fits least xs × (length xs ≡ count))
unfolding ascending_at
ascending_pass {A} number entry text fits spelled zero least at new xs bytes e =
    let is = ok_is ([], at) (xs, new) e in
    subst (λ (x : List A × Cursor). Passes at (flat_map text x.0) x.1 × (Ascend number fits least x.0 × (length x.0 ≡ 0))) is (record { bytes = refl; place = omega arith }, (tt, refl))
ascending_pass {A} number entry text fits spelled (suc count) least at new xs bytes e =
    let b = bind_ok (entry least at) (λ first. with_front (first.0 ∷ []) (ascending_at number entry count (number first.0 + 1) first.1)) (xs, new) e in
    let d = bind_ok {B = List A × Cursor} (ascending_at number entry count (number b.0.0 + 1) b.0.1) (λ rest. Ok (b.0.0 ∷ rest.0, rest.1)) (xs, new) b.2 in
    let first = spelled least at b.0.1 b.0.0 bytes b.1 in
    let behind = AreBytes-behind at b.0.1 (text b.0.0) first.0 bytes in
    let rest = ascending_pass number entry text fits spelled count (number b.0.0 + 1) b.0.1 d.0.1 d.0.0 behind d.1 in
    let both = Passes-then at b.0.1 d.0.1 (text b.0.0) (flat_map text d.0.0) first.0 rest.0 in
    let is = ok_is (b.0.0 ∷ d.0.0, d.0.1) (xs, new) d.2 in
    subst (λ (x : List A × Cursor). Passes at (flat_map text x.0) x.1 × (Ascend number fits least x.0 × (length x.0 ≡ suc count))) is (both, ((first.1.0, first.1.1, rest.1.0), ap suc rest.1.1))

-- ---- numbers

pub number_from_again : (least n : ℕ) → least ≤ n → n < 2 ^ 16 → ReadsBack (number_from least) n (number_text w16 n)
unfolding number_from
number_from_again least n le lt = such_that_again (leb least) (number_at w16) n (number_text w16 n) (number_again w16 (2 ^ 16) wide16 n lt) (le-leb least n le)

pub number_from_pass : (least : ℕ) → IsSpelledBy (number_from least) (number_text w16) (λ n. (least ≤ n) × (n < 2 ^ 16))
unfolding number_from
number_from_pass least at new n bytes e =
    let p = such_that_pass (leb least) (number_at w16) (number_text w16) (λ n. n < 2 ^ 16) (number_pass w16 (2 ^ 16) wide16) at new n bytes e in
    (p.0, (leb-true least n p.1.1, p.1.0))

-- numbers that ascend from some number on
abbrev pub AscendFrom : ℕ → List ℕ → Type 0
AscendFrom = Ascend (λ n. n) (λ n. n < 2 ^ 16)

pub numbers_again : (count least : ℕ) (ns : List ℕ) → length ns ≡ count → AscendFrom least ns → ReadsBack (numbers_at count least) ns (numbers_text ns)
numbers_again = ascending_again (λ n. n) number_from (number_text w16) (λ n. n < 2 ^ 16) (λ least n le lt. number_from_again least n le lt)

pub numbers_pass : (count least : ℕ) → IsSpelledBy (numbers_at count least) numbers_text (λ ns. AscendFrom least ns × (length ns ≡ count))
numbers_pass = ascending_pass (λ n. n) number_from (number_text w16) (λ n. n < 2 ^ 16) number_from_pass

-- ---- numbers that are tested

-- fewer than two numbers ascend
pub ascends_short : (numbers : List ℕ) → length numbers < 2 → ascends numbers ≡ true
ascends_short [] h = refl
ascends_short (n ∷ []) h = refl
ascends_short (n ∷ next ∷ more) h = absurd (omega arith)

tested-behind : (n : ℕ) (numbers : List ℕ) → ascends (n ∷ numbers) ≡ true → All (λ m. m < 65536) numbers → AscendFrom (n + 1) numbers
tested-behind n [] h small = tt
tested-behind n (next ∷ more) h small =
    let both = and_parts (ltb n next) (ascends (next ∷ more)) h in
    let less = ltb-true n next both.0 in
    (omega (arith, less), All-head (λ m. m < 65536) next more small, tested-behind next more both.1 (All-tail (λ m. m < 65536) next more small))

-- those that ascend and have two bytes each are in the order of a text
pub tested-numbers : (numbers : List ℕ) → ascends numbers ≡ true → All (λ m. m < 65536) numbers → AreNumbers numbers
tested-numbers [] h small = tt
tested-numbers (n ∷ more) h small =
    (omega arith, All-head (λ m. m < 65536) n more small, tested-behind n more h (All-tail (λ m. m < 65536) n more small))

-- ---- one more in its place

other : {A : Type 0} (number : A → ℕ) (x y : A) (rest : Bool) → ((number y == number x) || rest) ≡ false → (number y ≢ number x) × (rest ≡ false)
other number x y rest none = by (number y == number x) refl none
  where
    by : (b : Bool) → (number y == number x) ≡ b → (b || rest) ≡ false → (number y ≢ number x) × (rest ≡ false)
    by true is none = absurd cc
    by false is none = (λ same. absurd (cc (sym is ∙ eq-eqb (number y) (number x) same)), none)

-- a number that is none of theirs, and not below the least, ascends with them in its place
pub Ascend-placed : {A : Type 0} (number : A → ℕ) (fits : A → Type 0) (x : A) (xs : List A) (least : ℕ) → Ascend number fits least xs
    → list_any (λ y. number y == number x) xs ≡ false → least ≤ number x → fits x → Ascend number fits least (placed number x xs)
unfolding placed
Ascend-placed number fits x [] least are none low is = (low, is, tt)
Ascend-placed {A} number fits x (y ∷ ys) least are none low is =
    by (nat_le (number y) (number x)) refl (λ rest less. Ascend-placed number fits x ys (number y + 1) are.2 rest less is)
  where
    apart : (number y ≢ number x) × (list_any (λ (z : A). number z == number x) ys ≡ false)
    apart = other number x y (list_any (λ (z : A). number z == number x) ys) none

    by : (b : Bool) → nat_le (number y) (number x) ≡ b
        → (list_any (λ (z : A). number z == number x) ys ≡ false → number y + 1 ≤ number x → Ascend number fits (number y + 1) (placed number x ys))
        → Ascend number fits least (cond b (y ∷ placed number x ys) (x ∷ (y ∷ ys)))
    by true le rest =
        let less : number y + 1 ≤ number x = omega (arith, leb-true (number y) (number x) le, apart.0) in
        (are.0, are.1, rest apart.1 less)
    by false le rest =
        let less = leb-false (number y) (number x) le in
        let above : number x + 1 ≤ number y = omega (arith, less) in
        (low, is, (above, are.1, are.2))
