-- The forms of words, and what a word of each spells.
use Rattle.std.specs.Prelude.{ℕ, ◌%◌, ◌^◌, nat_lt, ◌==◌, Bool, not, ◌&&◌, ◌||◌, if◌then◌else◌, List, length, slice_index, Option, Some, None, option_and_then}
use Rattle.std.specs.Char.{is_ascii_digit}
use Rattle.std.specs.List.{list_all}
use Rattle.std.specs.Result.{result_ok}
use Rattle.std.specs.Str.Parse.{digits_value}
use Rattle.std.proofs.lemmas.Map.Entries.{option_filter}
use Rattle.hex.specs.Hex.{decode_of}
use Rattle.ar_base.specs.Ranges.{is_from_to}
use Rattle.ar_names.specs.Names.{is_name}
use Rattle.lms_tree.specs.PublicKey.{key_of_text}
use Rattle.lms_tree.specs.declared.public_key.LmsPublic.{LmsPublic}

-- ---- hex: two lower-case digits for each byte

-- `0` to `9` or `a` to `f`
abbrev pub is_lower_hex_digit : ℕ → Bool
is_lower_hex_digit byte = is_from_to 48 57 byte || is_from_to 97 102 byte

-- whether a word is such digits, an even number of them
abbrev pub is_hex : List ℕ → Bool
is_hex word = list_all is_lower_hex_digit word && length word % 2 == 0

-- the bytes that a word spells, where it has an even number of lower-case digits and nothing else
abbrev pub bytes_of_hex : List ℕ → Option (List ℕ)
bytes_of_hex word = if list_all is_lower_hex_digit word then result_ok (decode_of word) else None

-- the bytes that a word spells, where there are so many
unfoldable pub sized_of_hex : ℕ → List ℕ → Option (List ℕ)
sized_of_hex count word = option_filter (λ bytes. length bytes == count) (bytes_of_hex word)

-- the public key that a word spells by the bytes of its text
abbrev pub key_of_hex : List ℕ → Option LmsPublic
key_of_hex word = option_and_then key_of_text (bytes_of_hex word)

-- ---- numbers: decimal digits, without a sign and without leading zeros

-- `0`, or digits of which the first is none
abbrev pub is_numeral : List ℕ → Bool
is_numeral word =
    list_all is_ascii_digit word && not (length word == 0) && (length word == 1 || not (slice_index word 0 == 48))

-- the number that a word spells, where it is below 2 ^ 64
abbrev pub number_of : List ℕ → Option ℕ
number_of word =
    if is_numeral word && nat_lt (digits_value 10 word) (2 ^ 64) then Some (digits_value 10 word) else None

-- the number that a word spells, where it is not below the first of these bounds and not above the second
unfoldable pub number_in : ℕ → ℕ → List ℕ → Option ℕ
number_in least most word = option_filter (is_from_to least most) (number_of word)

-- ---- names

-- the name that a word is
abbrev pub name_of : List ℕ → Option (List ℕ)
name_of word = if is_name word then Some word else None
