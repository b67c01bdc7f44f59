-- A word of hex digits, an even number of them, spells bytes; and which word spells a key.
use Rattle.std.proofs.Common.{◌≡◌, ℕ, ◌*◌, ◌%◌, ◌==◌, Bool, true, false, ◌||◌, not, cond, if◌then◌else◌, List, length, Option, Some, None, Result, Ok, Err, IsOk, refl, sym, ap, ◌∙◌, eq-eqb, arith}
use Rattle.std.specs.Prelude.{MatchResult, is_some, option_and_then}
use Rattle.std.specs.List.{list_all}
use Rattle.std.specs.Result.{result_ok}
use Rattle.std.proofs.lemmas.Bool.{agree_below_at, and_parts, eqb-true}
use Rattle.std.proofs.lemmas.List.Sums.{AllPass-from_list_all}
use Rattle.std.proofs.lemmas.Map.Entries.{option_filter}
use Rattle.hex.specs.Hex.{decode_of, decode_sized, is_hex_digit}
use Rattle.hex.specs.declared.error.FromHexError.{FromHexError}
use Rattle.hex.proofs.HexLemmas.{decode_of-digits, decode_of-ok, decode_sized-ok, decode_sized-twice}
use Rattle.ar_base.specs.Gives.{with_error}
use Rattle.ar_lines.specs.declared.refusal.LineFault.TheVariants.{Refused}
use Rattle.lms_tree.specs.declared.public_key.LmsPublic.{LmsPublic}
use Rattle.lms_tree.specs.PublicKey.{is_key_text, key_of_text}
use Rattle.lms_tree.proofs.KeyLemmas.{is_some-key_of_text}
use Rattle.ar_lines.specs.Readings.{WordAt, spelled}
use Rattle.ar_lines.specs.Forms.{bytes_of_hex, is_hex, is_lower_hex_digit, key_of_hex, sized_of_hex}
use Rattle.ar_lines.proofs.Respelled.{is_small, filtered_some}
use Rattle.ar_lines.proofs.TextLaws.{all_pass}

-- ---- bytes

-- the test of one digit, which computes: a lower-case digit is one
abbrev is_known : ℕ → Bool
is_known c = not (is_lower_hex_digit c) || is_hex_digit c

is_digit : (c : ℕ) → is_lower_hex_digit c ≡ true → is_hex_digit c ≡ true
is_digit c low =
    let test : is_known c ≡ true = agree_below_at is_known (λ x. true) 103 c refl (is_small c low) in
    let same : (not true || is_hex_digit c) ≡ true = rw low at test in
    same

-- such a word is decoded
decoded : (word : List ℕ) → is_hex word ≡ true → (bytes : List ℕ) × (decode_of word ≡ Ok bytes)
decoded word h =
    let parts = and_parts (list_all is_lower_hex_digit word) (length word % 2 == 0) h in
    let digits = all_pass is_lower_hex_digit is_hex_digit is_digit word parts.0 in
    decode_of-digits word (eqb-true (length word % 2) 0 parts.1) (AllPass-from_list_all is_hex_digit word digits)

-- and spells bytes
pub hex_spells : (word : List ℕ) → is_hex word ≡ true → (bytes : List ℕ) × (bytes_of_hex word ≡ Some bytes)
hex_spells word h =
    let low = (and_parts (list_all is_lower_hex_digit word) (length word % 2 == 0) h).0 in
    let bytes = decoded word h in
    (bytes.0, rw (low, bytes.1) refl)

-- no other does
pub hex_alone : (word : List ℕ) → is_hex word ≡ false → bytes_of_hex word ≡ None
hex_alone word h = by (list_all is_lower_hex_digit word) (decode_of word) refl refl
  where
    by : (low : Bool) (read : Result (List ℕ) FromHexError) → list_all is_lower_hex_digit word ≡ low → decode_of word ≡ read → (if low then result_ok read else None) ≡ None
    by false read low is = refl
    by true (Err e) low is = refl
    by true (Ok bytes) low is =
        let even = (decode_of-ok word bytes is).0 in
        let other : true ≡ false = rw (low, even) at h in
        absurd cc

-- what is decoded is spelled
pub hex_decoded : (word bytes : List ℕ) → is_hex word ≡ true → decode_of word ≡ Ok bytes → bytes_of_hex word ≡ Some bytes
hex_decoded word bytes h is =
    let low = (and_parts (list_all is_lower_hex_digit word) (length word % 2 == 0) h).0 in
    rw (low, is) refl

-- so a word of this form is read
pub hex_is_read : (word : WordAt) → is_hex word.text ≡ true → IsOk (with_error Refused (spelled word (bytes_of_hex word.text)))
hex_is_read word h = let bytes = hex_spells word.text h in rw bytes.1 refl

pub ruleset hex_laws = (hex_spells, hex_alone, hex_decoded)

-- ---- so many bytes

pub sized-upper : (count : ℕ) (word : List ℕ) → list_all is_lower_hex_digit word ≡ false → sized_of_hex count word ≡ None
unfolding sized_of_hex
sized-upper count word low = rw low refl

pub sized-bytes : (count : ℕ) (word bytes : List ℕ) → list_all is_lower_hex_digit word ≡ true → decode_sized word count ≡ Ok bytes → sized_of_hex count word ≡ Some bytes
unfolding sized_of_hex
sized-bytes count word bytes low is =
    let twice : length word ≡ 2 * count = decode_sized-ok word count bytes is in
    let same : decode_of word ≡ Ok bytes = sym (decode_sized-twice word count twice) ∙ is in
    let len : length word ≡ 2 * length bytes = (decode_of-ok word bytes same).2 in
    let all : (length bytes == count) ≡ true = eq-eqb (length bytes) count (omega (arith, twice, len)) in
    rw (low, same, all) refl

sized-fault : (count : ℕ) (word : List ℕ) (e : FromHexError) → decode_sized word count ≡ Err e → sized_of_hex count word ≡ None
unfolding sized_of_hex
sized-fault count word e fails = by (list_all is_lower_hex_digit word) (decode_of word) refl
  where
    other : (bytes : List ℕ) (b : Bool) → (length bytes == count) ≡ b → decode_of word ≡ Ok bytes → cond b (Some bytes) None ≡ None
    other bytes false len is = refl
    other bytes true len is =
        let twice : length word ≡ 2 * count = (decode_of-ok word bytes is).2 ∙ ap (λ n. 2 * n) (eqb-true (length bytes) count len) in
        absurd (cc (sym fails ∙ decode_sized-twice word count twice ∙ is))

    by : (low : Bool) (read : Result (List ℕ) FromHexError) → decode_of word ≡ read → option_filter (λ bytes. length bytes == count) (if low then result_ok read else None) ≡ None
    by false read is = refl
    by true (Err f) is = refl
    by true (Ok bytes) is = other bytes (length bytes == count) refl is

-- what did not fit into so many bytes spells none
pub sized-unread : (count : ℕ) (word out : List ℕ) (answer : Result (Unit {0}) FromHexError) (fault : FromHexError) → answer ≡ Err fault
    → MatchResult (decode_sized word count) (λ bytes. (answer ≡ Ok tt) × (out ≡ bytes)) (λ e. answer ≡ Err e) → sized_of_hex count word ≡ None
sized-unread count word out answer fault failed h = by (decode_sized word count) refl h
  where
    by : (read : Result (List ℕ) FromHexError) → decode_sized word count ≡ read → MatchResult read (λ bytes. (answer ≡ Ok tt) × (out ≡ bytes)) (λ e. answer ≡ Err e) → sized_of_hex count word ≡ None
    by (Ok bytes) is h = let never = sym failed ∙ h.0 in absurd cc
    by (Err e) is h = sized-fault count word e is

pub ruleset sized_laws = (sized-upper, sized-bytes)

-- ---- keys

-- bytes of another length are no key
key_length : (bytes : List ℕ) → is_key_text bytes ≡ true → length bytes ≡ 56
unfolding is_key_text
key_length bytes h = eqb-true (length bytes) 56 (and_parts (length bytes == 56) _ h).0

no_key : (bytes : List ℕ) → (length bytes ≡ 56 → ⊥) → key_of_text bytes ≡ None
no_key bytes other = by (key_of_text bytes) refl
  where
    by : (key : Option LmsPublic) → key_of_text bytes ≡ key → key ≡ None
    by None is = refl
    by (Some key) is =
        let some : true ≡ is_key_text bytes = ap is_some (sym is) ∙ is_some-key_of_text bytes in
        absurd (other (key_length bytes (sym some)))

-- bytes that are no key's text spell no key
pub key_of_hex-unsized : (word : List ℕ) → sized_of_hex 56 word ≡ None → key_of_hex word ≡ None
unfolding sized_of_hex
key_of_hex-unsized word none = by (bytes_of_hex word) none
  where
    by : (read : Option (List ℕ)) → option_filter (λ bytes. length bytes == 56) read ≡ None → option_and_then key_of_text read ≡ None
    by None h = refl
    by (Some bytes) h = no_key bytes (λ len. let all : true ≡ (length bytes == 56) = sym (eq-eqb (length bytes) 56 len) in cc)

pub key_of_hex-sized : (word bytes : List ℕ) → sized_of_hex 56 word ≡ Some bytes → key_of_hex word ≡ key_of_text bytes
unfolding sized_of_hex
key_of_hex-sized word bytes some = ap (option_and_then key_of_text) (filtered_some _ (bytes_of_hex word) bytes some).0

pub ruleset key_laws = (key_of_hex-unsized, key_of_hex-sized)
