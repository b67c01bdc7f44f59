-- Words of digits, and the number that `parse` reads of one.
use Rattle.std.proofs.Common.{◌≡◌, ℕ, ◌<◌, ◌^◌, Bool, ◌&&◌, true, false, cond, ltb, List, [], ◌∷◌, length, Some, None, Result, Ok, Err, refl, sym, ap, ◌∙◌, arith}
use Rattle.std.specs.Char.{is_ascii_digit}
use Rattle.std.specs.List.{list_all}
use Rattle.std.specs.Result.{OkIff, result_ok}
use Rattle.std.specs.Str.{all_ascii_digits, IsUtf8}
use Rattle.std.specs.Str.Parse.{ParsesUnsigned, digits_value}
use Rattle.std.proofs.lemmas.Str.{IsUtf8-from_ascii}
use Rattle.std.proofs.lemmas.Str.Parse.{IsNumeralModel, numerals_by_value, tells_all_ascii_digits, parse_digits}
use Rattle.std.proofs.lemmas.Fmt.{IsAscii-from_digits}
use Rattle.std.proofs.lemmas.Bool.{and_parts, eqb-false, le-ltb, lt-ltb, not-true}
use Rattle.ar_lines.specs.Forms.{is_numeral, number_of}

pub digits_alone : (word : List ℕ) → list_all is_ascii_digit word ≡ all_ascii_digits word
digits_alone [] = refl
digits_alone (byte ∷ word) = rw (digits_alone word) refl

-- the digits of a numeral, and that there are some
pub numeral_digits : (word : List ℕ) → is_numeral word ≡ true → (all_ascii_digits word ≡ true) × (0 < length word)
numeral_digits word h =
    let parts = and_parts _ _ h in
    let front = and_parts _ _ parts.0 in
    let some : length word ≡ 0 → ⊥ = eqb-false _ _ (not-true _ front.1) in
    (sym (digits_alone word) ∙ front.0, omega arith)

pub own : IsNumeralModel (λ ds. all_ascii_digits ds ≡ true) (digits_value 10)
own = numerals_by_value _ tells_all_ascii_digits

pub numeral_is_text : (word : List ℕ) → is_numeral word ≡ true → IsUtf8 word
numeral_is_text word h = IsUtf8-from_ascii word (IsAscii-from_digits word (own.to word (numeral_digits word h).0))

-- an answer that is the value where it is small enough, and else none
small_read : {E : Type 0} (r : Result ℕ E) (some small : Type 0) (n : ℕ) (test : Bool) → (small → test ≡ true) → ((small → ⊥) → test ≡ false) → some → OkIff r (some × small) n → result_ok r ≡ cond test (Some n) None
small_read (Ok x) some small n test is not here reads = rw (is reads.0.1, reads.1) refl
small_read (Err e) some small n test is not here reads = rw (not (λ lt. reads (here, lt))) refl

-- what `parse` reads of a numeral
pub numeral_read : {E : Type 0} (word : List ℕ) (r : Result ℕ E) → is_numeral word ≡ true → ParsesUnsigned 64 10 word r → result_ok r ≡ number_of word
numeral_read word r h parses =
    let digits = numeral_digits word h in
    let n = digits_value 10 word in
    let small : (is_numeral word && ltb n (2 ^ 64)) ≡ ltb n (2 ^ 64) = rw h refl in
    small_read r (0 < length word) (n < 2 ^ 64) n (ltb n (2 ^ 64)) (lt-ltb n (2 ^ 64)) (λ no. le-ltb n (2 ^ 64) (omega arith)) digits.1 (parse_digits own 64 word r parses digits.0)
    ∙ ap (λ test. cond test (Some n) None) (sym small)
