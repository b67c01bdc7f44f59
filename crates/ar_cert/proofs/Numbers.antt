-- A list of numbers, two bytes for each, that is read in place.
use Rattle.std.proofs.Common.{◌≡◌, ℕ, ◌+◌, ◌*◌, ◌/◌, ◌<◌, ◌≤◌, List, [], ◌∷◌, ◌++◌, length, get_or, take, drop, Ok, refl, sym, ap, ◌∙◌, append_assoc, arith, length-append, length-drop}
use Rattle.std.specs.Int.{w16, from_be_bytes, to_be_bytes}
use Rattle.std.proofs.lemmas.List.{append-nil, drop_more, take_more, take_at}
use Rattle.std.proofs.lemmas.Grind.{flat_map-append}
use Rattle.std.proofs.lemmas.Nat.{from_be_bytes-to_be_bytes_2}
use Rattle.ar_bytes.specs.Reading.{Cursor}
use Rattle.ar_base.specs.Bytes.{AreBytes}
use Rattle.ar_bytes.specs.RoundTrip.{number_text}
use Rattle.ar_bytes.specs.Ascending.{numbers_at, numbers_text}
use Rattle.ar_bytes.proofs.Ascending.{AscendFrom, numbers_pass}
use Rattle.ar_cert.specs.Lists.{numbers_in}

-- ---- the numbers that stand in bytes

pub numbers_in-text : (least : ℕ) (ns : List ℕ) → AscendFrom least ns → numbers_in (numbers_text ns) ≡ ns
unfolding number_text
numbers_in-text least [] h = refl
numbers_in-text least (n ∷ ns) h = ap (λ (l : List ℕ). from_be_bytes w16 (to_be_bytes w16 n) ∷ l) (numbers_in-text (n + 1) ns h.2) ∙ ap (λ (k : ℕ). k ∷ ns) (from_be_bytes-to_be_bytes_2 n h.1)

pub length-numbers_text : (ns : List ℕ) → length (numbers_text ns) ≡ 2 * length ns
unfolding number_text
length-numbers_text [] = refl
length-numbers_text (n ∷ ns) = omega (arith, length-numbers_text ns)

-- what was read of numbers in place
pub numbers_here : (count : ℕ) (at new : Cursor) (ns : List ℕ) → AreBytes at.ahead → numbers_at count 0 at ≡ Ok (ns, new) → (2 * count ≤ length at.ahead) × (take (2 * count) at.ahead ≡ numbers_text ns) × (numbers_in (numbers_text ns) ≡ ns)
numbers_here count at new ns are e =
    let p = numbers_pass count 0 at new ns are e in
    let len : length (numbers_text ns) ≡ 2 * count = omega (arith, length-numbers_text ns, p.1.1) in
    let front : take (2 * count) at.ahead ≡ numbers_text ns = rw p.0.bytes (take_at (numbers_text ns) new.ahead (2 * count) len) in
    (omega (arith, ap length p.0.bytes, length-append (numbers_text ns) new.ahead, len), front, numbers_in-text 0 ns p.1.0)

-- ---- numbers taken from bytes one by one

pub numbers_in-more : (bytes : List ℕ) (i : ℕ) → i < length bytes / 2 → numbers_in (drop (2 * i) bytes) ≡ from_be_bytes w16 (get_or bytes (2 * i) 0 ∷ get_or bytes (2 * i + 1) 0 ∷ []) ∷ numbers_in (drop (2 * (i + 1)) bytes)
numbers_in-more bytes i lt =
    let first = drop_more bytes (2 * i) 0 (omega (arith, lt)) in
    let second = drop_more bytes (2 * i + 1) 0 (omega (arith, lt)) in
    let place : 2 * i + 1 + 1 ≡ 2 * (i + 1) = omega arith in
    let both = first ∙ ap (λ (l : List ℕ). get_or bytes (2 * i) 0 ∷ l) (second ∙ ap (λ (k : ℕ). get_or bytes (2 * i + 1) 0 ∷ drop k bytes) place) in
    ap numbers_in both

few_are_none : (bytes : List ℕ) → length bytes ≤ 1 → numbers_in bytes ≡ []
few_are_none [] h = refl
few_are_none (a ∷ []) h = refl
few_are_none (a ∷ b ∷ bytes) h = absurd (omega (arith, h))

-- the next number
pub numbers_more : (taken bytes : List ℕ) (i : ℕ) (all : List ℕ) → i < length bytes / 2 → taken ++ numbers_in (drop (2 * i) bytes) ≡ all → taken ++ from_be_bytes w16 (get_or bytes (2 * i) 0 ∷ get_or bytes (2 * i + 1) 0 ∷ []) ∷ [] ++ numbers_in (drop (2 * (i + 1)) bytes) ≡ all
numbers_more taken bytes i all lt so_far =
    let n = from_be_bytes w16 (get_or bytes (2 * i) 0 ∷ get_or bytes (2 * i + 1) 0 ∷ []) in
    append_assoc taken (n ∷ []) (numbers_in (drop (2 * (i + 1)) bytes)) ∙ ap (λ (l : List ℕ). taken ++ l) (sym (numbers_in-more bytes i lt)) ∙ so_far

-- the last of them
pub numbers_all : (taken bytes : List ℕ) (i : ℕ) (all : List ℕ) → length bytes / 2 ≤ i → taken ++ numbers_in (drop (2 * i) bytes) ≡ all → taken ≡ all
numbers_all taken bytes i all le so_far =
    let none = few_are_none (drop (2 * i) bytes) (omega (arith, length-drop (2 * i) bytes)) in
    sym (append-nil taken) ∙ ap (λ (l : List ℕ). taken ++ l) (sym none) ∙ so_far

-- the text of one number more
pub numbers_text-take : (ns : List ℕ) (i : ℕ) → i < length ns → numbers_text (take (i + 1) ns) ≡ numbers_text (take i ns) ++ number_text w16 (get_or ns i 0)
numbers_text-take ns i lt =
    ap numbers_text (take_more ns i 0 lt) ∙ flat_map-append (number_text w16) (take i ns) (get_or ns i 0 ∷ []) ∙ ap (λ (l : List ℕ). numbers_text (take i ns) ++ l) (append-nil (number_text w16 (get_or ns i 0)))

-- a list in place has no more numbers than its bytes allow
pub numbers_few : (bytes : List ℕ) (most : ℕ) → length bytes ≤ 2 * most → numbers_text (numbers_in bytes) ≡ bytes → length (numbers_in bytes) ≤ most
numbers_few bytes most le text = omega (arith, length-numbers_text (numbers_in bytes), ap length text)
