-- What is written as a word is what the word spells, and the word is text without a space.
use Rattle.std.proofs.Common.{◌≡◌, ℕ, zero, suc, ◌+◌, ◌/◌, ◌%◌, ◌<◌, ◌^◌, inl, inr, Bool, true, false, ◌&&◌, ◌||◌, not, eqb, List, [], ◌∷◌, length, get_or, Some, refl, ◌∙◌, ne_eqb, lt-ltb, arith}
use Rattle.std.specs.Char.{is_ascii_digit}
use Rattle.std.specs.Fmt.{decimal}
use Rattle.std.specs.List.{list_all}
use Rattle.std.proofs.lemmas.Bool.{and_parts, cases_lt, eqb-true, not-false, or_parts}
use Rattle.std.proofs.lemmas.Fmt.{decimal_digit, digits_decimal, digits_value-decimal, first_decimal, decimal_nonempty}
use Rattle.std.proofs.lemmas.List.Elements.{All-from_get_or}
use Rattle.std.proofs.lemmas.List.Sums.{list_all-from_AllPass}
use Rattle.std.proofs.Math.Bool.{or-true}
use Rattle.hex.specs.Hex.{IsBytes, encode_lower, encode_with, lower_digits}
use Rattle.hex.proofs.HexLemmas.{decode_of-encode_lower}
use Rattle.ar_names.specs.Names.{IsName, is_label_byte, is_wrong_at}
use Rattle.ar_names.proofs.Least.{name_is_right}
use Rattle.lms_tree.specs.declared.public_key.LmsPublic.{LmsPublic}
use Rattle.lms_tree.specs.PublicKey.{key_text}
use Rattle.lms_tree.proofs.KeyLemmas.{bytes-key_text, key_of_text-key_text}
use Rattle.ar_lines.specs.Forms.{bytes_of_hex, is_lower_hex_digit, is_numeral, key_of_hex, name_of, number_of}
use Rattle.ar_lines.specs.Written.{IsKey, hex_of_key}
use Rattle.ar_lines.proofs.Numerals.{digits_alone, own}
use Rattle.ar_lines.proofs.TextLaws.{all_pass, is_word, is_word_byte, within_range}

-- ---- hex

-- the test of the first n places of the table, which computes
abbrev digits_pass : ℕ → Bool
digits_pass zero = true
digits_pass (suc n) = is_lower_hex_digit (get_or lower_digits n 0) && digits_pass n

digits_pass-at : (n k : ℕ) → digits_pass n ≡ true → k < n → is_lower_hex_digit (get_or lower_digits k 0) ≡ true
digits_pass-at zero k h lt = absurd (omega arith)
digits_pass-at (suc n) k h lt =
    let parts = and_parts (is_lower_hex_digit (get_or lower_digits n 0)) (digits_pass n) h in
    elim (cases_lt k n) [
      | inl below ↦ digits_pass-at n k parts.1 below
      | inr top ↦ let e : k ≡ n = omega arith in rw e parts.0
    ]

digit_passes : (k : ℕ) → k < 16 → is_lower_hex_digit (get_or lower_digits k 0) ≡ true
digit_passes k lt = digits_pass-at 16 k refl lt

-- the hex of bytes is of lower-case digits
hex_digits : (bytes : List ℕ) → IsBytes bytes → list_all is_lower_hex_digit (encode_lower bytes) ≡ true
unfolding encode_with
hex_digits [] h = refl
hex_digits (byte ∷ bytes) h =
    let fits : byte < 256 = h 0 in
    let high : byte / 16 < 16 = omega arith in
    let low : byte % 16 < 16 = omega arith in
    rw (digit_passes (byte / 16) high, digit_passes (byte % 16) low) (hex_digits bytes (λ k. h (suc k)))

pub bytes_of_hex-encode : (bytes : List ℕ) → IsBytes bytes → bytes_of_hex (encode_lower bytes) ≡ Some bytes
bytes_of_hex-encode bytes h = rw (hex_digits bytes h, decode_of-encode_lower bytes h) refl

or_range : (a b c : Bool) → (a ≡ true → c ≡ true) → (b ≡ true → c ≡ true) → (a || b) ≡ true → c ≡ true
or_range true b c left right h = left refl
or_range false b c left right h = right h

pub hex_is_word : (bytes : List ℕ) → IsBytes bytes → is_word (encode_lower bytes) ≡ true
hex_is_word bytes h =
    all_pass is_lower_hex_digit is_word_byte
    (λ byte. or_range _ _ _ (within_range 48 57 0x21 0x7e byte (omega arith) (omega arith)) (within_range 97 102 0x21 0x7e byte (omega arith) (omega arith)))
    (encode_lower bytes) (hex_digits bytes h)

-- ---- keys

-- the text of a key is bytes
key_text_bytes : (key : LmsPublic) → IsKey key → IsBytes (key_text key)
key_text_bytes key h = bytes-key_text key h.id h.root

pub key_of_hex-key : (key : LmsPublic) → IsKey key → key_of_hex (hex_of_key key) ≡ Some key
key_of_hex-key key h = rw (bytes_of_hex-encode (key_text key) (key_text_bytes key h)) (key_of_text-key_text key h.widths)

pub key_is_word : (key : LmsPublic) → IsKey key → is_word (hex_of_key key) ≡ true
key_is_word key h = hex_is_word (key_text key) (key_text_bytes key h)

-- ---- numbers

decimal_digits : (n : ℕ) → n < 2 ^ 64 → list_all is_ascii_digit (decimal n) ≡ true
decimal_digits n h = digits_alone (decimal n) ∙ digits_decimal own n h

-- the one digit, or a first digit that is none
no_leading_zero : (n : ℕ) → n < 2 ^ 64 → (eqb (length (decimal n)) 1 || not (eqb (get_or (decimal n) 0 0) 48)) ≡ true
no_leading_zero n h =
    elim (cases_lt n 10) [
      | inl one ↦ let digit : decimal n ≡ (48 + n) ∷ [] = decimal_digit n one in rw digit refl
      | inr more ↦
          let first = first_decimal n (omega arith) h in
          let other : eqb (get_or (decimal n) 0 0) 48 ≡ false = ne_eqb _ _ (λ e. omega arith) in
          rw other (or-true (eqb (length (decimal n)) 1))
    ]

decimal_is_numeral : (n : ℕ) → n < 2 ^ 64 → is_numeral (decimal n) ≡ true
decimal_is_numeral n h =
    let some = decimal_nonempty n h in
    let not_empty : eqb (length (decimal n)) 0 ≡ false = ne_eqb _ _ (λ e. omega arith) in
    rw (decimal_digits n h, not_empty, no_leading_zero n h) refl

pub number_of-decimal : (n : ℕ) → n < 2 ^ 64 → number_of (decimal n) ≡ Some n
number_of-decimal n h =
    rw (decimal_is_numeral n h, digits_value-decimal own n h, lt-ltb n (2 ^ 64) h) refl

pub decimal_is_word : (n : ℕ) → n < 2 ^ 64 → is_word (decimal n) ≡ true
decimal_is_word n h =
    all_pass is_ascii_digit is_word_byte (λ byte. within_range 48 57 0x21 0x7e byte (omega arith) (omega arith)) (decimal n) (decimal_digits n h)

-- ---- names

pub name_of-name : (name : List ℕ) → IsName name → name_of name ≡ Some name
name_of-name name h = rw h refl

-- a byte that is not wrong is one of names
name_byte : (text : List ℕ) (k : ℕ) → is_wrong_at text k ≡ false → (is_label_byte (get_or text k 0) || eqb (get_or text k 0) 46) ≡ true
unfolding is_wrong_at
name_byte text k h = not-false _ (or_parts _ _ (or_parts _ _ (or_parts _ _ (or_parts _ _ h).0).0).0).1

name_byte_is_word : (byte : ℕ) → (is_label_byte byte || eqb byte 46) ≡ true → is_word_byte byte ≡ true
name_byte_is_word byte =
    or_range _ _ _
    (or_range _ _ _
    (or_range _ _ _ (within_range 97 122 0x21 0x7e byte (omega arith) (omega arith)) (within_range 48 57 0x21 0x7e byte (omega arith) (omega arith)))
    (λ e. let dash = eqb-true byte 45 e in rw dash refl))
    (λ e. let dot = eqb-true byte 46 e in rw dot refl)

pub name_is_word : (name : List ℕ) → IsName name → is_word name ≡ true
name_is_word name h =
    let right = (name_is_right name h).0 in
    list_all-from_AllPass is_word_byte name
    (All-from_get_or (λ byte. is_word_byte byte ≡ true) name 0 (λ k lt. name_byte_is_word (get_or name k 0) (name_byte name k (right k lt))))
