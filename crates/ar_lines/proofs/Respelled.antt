-- A word that spells a value is what is written of this value.
use Rattle.std.proofs.Common.{◌≡◌, ℕ, ◌+◌, ◌*◌, ◌/◌, ◌%◌, ◌<◌, ◌^◌, Bool, true, false, ◌&&◌, ◌||◌, not, cond, eqb, leb, ltb, List, [], ◌∷◌, length, get_or, Option, Some, None, unwrap_or, Result, Ok, Err, refl, sym, ap, ◌∙◌, inl, inr, arith}
use Rattle.std.specs.Prelude.{option_and_then}
use Rattle.std.specs.Char.{is_ascii_digit}
use Rattle.std.specs.Fmt.{decimal}
use Rattle.std.specs.List.{list_all}
use Rattle.std.specs.Result.{result_ok, result_unwrap_or}
use Rattle.std.specs.Str.Parse.{digits_value}
use Rattle.std.proofs.lemmas.Bool.{agree_below_at, and_parts, eqb-true, leb-true, ltb-true, or_cases}
use Rattle.std.proofs.lemmas.Fmt.{decimal-digits_value}
use Rattle.std.proofs.lemmas.Option.{cond_some}
use Rattle.std.proofs.lemmas.Map.Entries.{option_filter}
use Rattle.hex.specs.Hex.{IsBytes, decode_of, decode_pairs, digit_or_error, encode_lower, encode_with, hex_digit_value, lower_digits, pair_value, value_at, ◌>>=◌}
use Rattle.hex.specs.declared.error.FromHexError.{FromHexError}
use Rattle.hex.proofs.HexLemmas.{decode_of-even, decode_of-ok}
use Rattle.lms_tree.specs.declared.public_key.LmsPublic.{LmsPublic}
use Rattle.lms_tree.specs.PublicKey.{key_of_text}
use Rattle.lms_tree.proofs.KeyLemmas.{key_text-key_of_text}
use Rattle.ar_lines.specs.Forms.{bytes_of_hex, is_lower_hex_digit, is_numeral, key_of_hex, name_of, number_in, number_of, sized_of_hex}
use Rattle.ar_lines.specs.Written.{WritesBack, hex_of_key}
use Rattle.ar_lines.proofs.Numerals.{numeral_digits, own}
use Rattle.ar_base.proofs.Shown.{gave}

-- ---- what a value shows

-- what passed a test
kept : {A : Type 0} (test : Bool) (o : Option A) (y : A) → cond test o None ≡ Some y → (test ≡ true) × (o ≡ Some y)
kept true o y e = (refl, e)
kept false o y e = absurd cc

-- what a step behind a value shows
pub stepped : {A B : Type 0} (f : A → Option B) (o : Option A) (y : B) → option_and_then f o ≡ Some y → (x : A) × (o ≡ Some x) × (f x ≡ Some y)
stepped f (Some x) y e = (x, refl, e)
stepped f None y e = absurd cc

pub filtered_some : {T : Type 0} (test : T → Bool) (o : Option T) (y : T) → option_filter test o ≡ Some y → (o ≡ Some y) × (test y ≡ true)
filtered_some test (Some x) y e =
    let p = cond_some (test x) x y e in
    (ap Some p.1, ap test (sym p.1) ∙ p.0)
filtered_some test None y e = absurd cc

-- what passes a test is written as before
pub filtered_writes : {T : Type 0} (form : List ℕ → Option T) (write : T → List ℕ) (test : T → Bool) → WritesBack form write → WritesBack (λ word. option_filter test (form word)) write
filtered_writes form write test writes word value h = writes word value (filtered_some test (form word) value h).0

-- ---- hex

-- the test of one digit, which computes: a lower-case digit is that of its value
abbrev digit_is_own : ℕ → Bool
digit_is_own c = not (is_lower_hex_digit c) || eqb (get_or lower_digits (unwrap_or (hex_digit_value c) 99) 0) c

pub is_small : (c : ℕ) → is_lower_hex_digit c ≡ true → c < 103
is_small c h =
    elim (or_cases (leb 48 c && leb c 57) (leb 97 c && leb c 102) h) [
      | inl digit ↦ let most = leb-true c 57 (and_parts (leb 48 c) (leb c 57) digit).1 in omega arith
      | inr letter ↦ let most = leb-true c 102 (and_parts (leb 97 c) (leb c 102) letter).1 in omega arith
    ]

digit_own : (c v : ℕ) → is_lower_hex_digit c ≡ true → hex_digit_value c ≡ Some v → get_or lower_digits v 0 ≡ c
digit_own c v low value =
    let test : digit_is_own c ≡ true = agree_below_at digit_is_own (λ x. true) 103 c refl (is_small c low) in
    let same : (not true || eqb (get_or lower_digits (unwrap_or (Some v) 99) 0) c) ≡ true = rw (low, value) at test in
    eqb-true _ _ same

-- what an `Ok` after a step shows
step_ok : {A B : Type 0} (r : Result A FromHexError) (f : A → Result B FromHexError) (y : B) → (r >>= f) ≡ Ok y → (x : A) × (r ≡ Ok x) × (f x ≡ Ok y)
step_ok (Ok x) f y h = (x, refl, h)
step_ok (Err e) f y h = absurd cc

digit_read : (c i : ℕ) (o : Option ℕ) (v : ℕ) → digit_or_error c i o ≡ Ok v → o ≡ Some v
digit_read c i (Some w) v h = ap Some (ap (λ (r : Result ℕ FromHexError). result_unwrap_or r 0) h)
digit_read c i None v h = absurd cc

value_small : (c v : ℕ) → hex_digit_value c ≡ Some v → v < 16
value_small c v h = grind (arith)

pairs_own : (i : ℕ) (word bytes : List ℕ) → list_all is_lower_hex_digit word ≡ true → decode_pairs i word ≡ Ok bytes → encode_lower bytes ≡ word
unfolding decode_pairs encode_with
pairs_own i [] bytes low h =
    let e : [] ≡ bytes = ap (λ (r : Result (List ℕ) FromHexError). result_unwrap_or r []) h in
    rw (← e) refl
pairs_own i (a ∷ []) bytes low h = absurd cc
pairs_own i (a ∷ b ∷ rest) bytes low h =
    let first = and_parts (is_lower_hex_digit a) (list_all is_lower_hex_digit (b ∷ rest)) low in
    let second = and_parts (is_lower_hex_digit b) (list_all is_lower_hex_digit rest) first.1 in
    let pair = step_ok (pair_value a b i) _ bytes h in
    let high = step_ok (value_at a i) _ pair.0 pair.1 in
    let deep = step_ok (value_at b (i + 1)) _ pair.0 high.2 in
    let others = step_ok (decode_pairs (i + 2) rest) _ bytes pair.2 in
    let more = pairs_own (i + 2) rest others.0 second.1 others.1 in
    let whole : pair.0 ∷ others.0 ≡ bytes = ap (λ (r : Result (List ℕ) FromHexError). result_unwrap_or r []) others.2 in
    let byte : high.0 * 16 + deep.0 ≡ pair.0 = ap (λ (r : Result ℕ FromHexError). result_unwrap_or r 0) deep.2 in
    let x = digit_read a i (hex_digit_value a) high.0 high.1 in
    let y = digit_read b (i + 1) (hex_digit_value b) deep.0 deep.1 in
    let x_small = value_small a high.0 x in
    let y_small = value_small b deep.0 y in
    let front : pair.0 / 16 ≡ high.0 = omega arith in
    let back : pair.0 % 16 ≡ deep.0 = omega arith in
    rw (← whole, front, back, digit_own a high.0 first.0 x, digit_own b deep.0 second.0 y, more) refl

pub hex_own : (word bytes : List ℕ) → bytes_of_hex word ≡ Some bytes → (encode_lower bytes ≡ word) × IsBytes bytes
hex_own word bytes h =
    let parts = kept (list_all is_lower_hex_digit word) (result_ok (decode_of word)) bytes h in
    let decoded = gave (decode_of word) bytes parts.1 in
    let ok = decode_of-ok word bytes decoded in
    (pairs_own 0 word bytes parts.0 (sym (decode_of-even word ok.0) ∙ decoded), ok.3)

pub sized_writes : (count : ℕ) → WritesBack (sized_of_hex count) encode_lower
unfolding sized_of_hex
sized_writes count = filtered_writes bytes_of_hex encode_lower _ (λ word bytes h. (hex_own word bytes h).0)

-- ---- keys

pub key_hex_own : (word : List ℕ) (key : LmsPublic) → key_of_hex word ≡ Some key → hex_of_key key ≡ word
key_hex_own word key h =
    let bytes = stepped key_of_text (bytes_of_hex word) key h in
    let own_hex = hex_own word bytes.0 bytes.1 in
    ap encode_lower (key_text-key_of_text bytes.0 key own_hex.1 bytes.2).0 ∙ own_hex.0

-- ---- numbers

-- a first digit that is zero is the only one
zero_alone : (word : List ℕ) → is_numeral word ≡ true → get_or word 0 0 ≡ 48 → length word ≡ 1
zero_alone word h zero =
    let digits = list_all is_ascii_digit word && not (eqb (length word) 0) in
    let one_or_other = eqb (length word) 1 || not (eqb (get_or word 0 0) 48) in
    let last = (and_parts digits one_or_other h).1 in
    elim (or_cases (eqb (length word) 1) (not (eqb (get_or word 0 0) 48)) last) [
      | inl one ↦ eqb-true _ _ one
      | inr other ↦ let none : not (eqb 48 48) ≡ true = rw zero at other in absurd cc
    ]

pub number_own : (word : List ℕ) (n : ℕ) → number_of word ≡ Some n → decimal n ≡ word
number_own word n h =
    let parts = cond_some (is_numeral word && ltb (digits_value 10 word) (2 ^ 64)) (digits_value 10 word) n h in
    let tests = and_parts _ _ parts.0 in
    let digits = numeral_digits word tests.0 in
    ap decimal (sym parts.1)
    ∙ decimal-digits_value own word digits.0 digits.1 (zero_alone word tests.0) (ltb-true _ _ tests.1)

pub number_in_writes : (least most : ℕ) → WritesBack (number_in least most) decimal
unfolding number_in
number_in_writes least most = filtered_writes number_of decimal _ number_own

-- ---- names

pub name_own : (word name : List ℕ) → name_of word ≡ Some name → name ≡ word
name_own word name h = sym (cond_some _ word name h).1
