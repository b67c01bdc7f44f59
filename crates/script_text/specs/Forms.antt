-- The forms of the words of a script, and what a word of each means. The forms of names, of numbers, of hex and of
-- parties are those of all lines.
use Rattle.std.specs.Prelude.{ℕ, ◌==◌, nat_le, nat_lt, Bool, true, false, ◌&&◌, if◌then◌else◌, List, [], ◌∷◌, length, take, drop, codes, Option, Some, None, option_and_then, option_map}
use Rattle.std.specs.List.{list_any}
use Rattle.std.specs.Option.{is_some}
use Rattle.std.specs.Str.{bytes_eq}
use Rattle.std.proofs.lemmas.Map.Entries.{option_filter}
use Rattle.ar_lines.specs.Forms.{is_hex, number_in, number_of}
use Rattle.ar_bytes.specs.Ascending.{ascends}
use Rattle.ar_lines.specs.Lines.{parts_of}
use Rattle.ar_lines.specs.Parties.{party_of}
use Rattle.ar_statement.specs.Claims.{role_number}
use Rattle.ar_statement.specs.Ranges.{is_witness}
use Rattle.ar_statement.specs.declared.party.Party.{Party}
use Rattle.ar_statement.specs.declared.party.Role.{Role}
use Rattle.ar_statement.specs.declared.party.Role.TheVariants.{Owner}
use Rattle.party_keys.specs.Directory.{is_party_count, is_quorum}

-- ---- numbers

-- how many logs, or authorities, a word says that there are
unfoldable pub party_count_of : List ℕ → Option ℕ
party_count_of word = option_filter is_party_count (number_of word)

-- how many of so many logs make a quorum, as a word says
unfoldable pub quorum_of : ℕ → List ℕ → Option ℕ
quorum_of logs word = option_filter (λ q. is_quorum q logs) (number_of word)

-- the types of keys that logs and authorities may have: the number of an LMS type with that of an LM-OTS type
abbrev pub key_types : List (ℕ × ℕ)
key_types = (5, 3) ∷ (5, 4) ∷ (6, 3) ∷ (6, 4) ∷ (7, 3) ∷ []

-- the number of an LMS type that keys may have
unfoldable pub lms_of : List ℕ → Option ℕ
lms_of word = option_filter (λ lms. list_any (λ types. lms == types.0) key_types) (number_of word)

-- the number of an LM-OTS type that keys of this LMS type may have
unfoldable pub ots_of : ℕ → List ℕ → Option ℕ
ots_of lms word = option_filter (λ ots. list_any (λ types. lms == types.0 && ots == types.1) key_types) (number_of word)

-- ---- parties

-- the number of a party of this role
unfoldable pub number_with : Role → List ℕ → Option ℕ
number_with role word = option_map (λ p. p.number) (option_filter (λ p. role_number p.role == role_number role) (party_of word))

-- a log or an authority
unfoldable pub witness_of : List ℕ → Option Party
witness_of word = option_filter (λ p. is_witness p.role) (party_of word)

-- the number of an owner that a script may make: there are at most 512
unfoldable pub new_owner_of : List ℕ → Option ℕ
new_owner_of word = option_filter (λ n. nat_lt n 512) (number_with Owner word)

-- to whom bytes go: to this party, or to `logs`, which is all of them
unfoldable pub receiver_of : List ℕ → Option (Option Party)
receiver_of word = if bytes_eq word (codes "logs") then Some None else option_map Some (party_of word)

-- ---- messages

-- the number of a message, or `last`, which is the newest that goes to a client
unfoldable pub judged_of : List ℕ → Option (Option ℕ)
judged_of word = if bytes_eq word (codes "last") then Some None else option_map Some (number_of word)

-- ---- lists of numbers

-- what each of these words spells, where all of them are of the form
abbrev pub each_of : {T : Type 0} → (List ℕ → Option T) → List (List ℕ) → Option (List T)
each_of form [] = Some []
each_of form (word ∷ words) = option_and_then (λ value. option_map (λ values. value ∷ values) (each_of form words)) (form word)

-- at most so many numbers that are not above this one, with `,` between each two
unfoldable pub list_of : ℕ → ℕ → List ℕ → Option (List ℕ)
list_of count most word = option_filter (λ numbers. nat_le (length numbers) count) (each_of (number_in 0 most) (parts_of 44 word))

-- the same, where they ascend strictly
unfoldable pub ascending_of : ℕ → ℕ → List ℕ → Option (List ℕ)
ascending_of count most word = option_filter ascends (list_of count most word)

-- the authorities that a policy trusts: `-` for none, or 1 to 16 numbers below 65536
unfoldable pub trusted_of : List ℕ → Option (List ℕ)
trusted_of word = if bytes_eq word (codes "-") then Some [] else ascending_of 16 65535 word

-- the authorities that an owner asks: 1 to 8 numbers
unfoldable pub asks_of : List ℕ → Option (List ℕ)
asks_of word = ascending_of 8 0xffff_ffff_ffff_ffff word

-- ---- how a policy binds its domain

-- what stands behind this beginning of a word
abbrev pub behind : List ℕ → List ℕ → Option (List ℕ)
behind front word = if bytes_eq (take (length front) word) front then Some (drop (length front) word) else None

-- for how many epochs a recovery waits: nothing, where there is no recovery, or `/` and 1 to 10,000
abbrev pub wait_in : List ℕ → Option (Option ℕ)
wait_in [] = Some None
wait_in (mark ∷ digits) = if mark == 47 then option_map Some (number_in 1 10000 digits) else None

-- the wait at the end of a word
unfoldable pub wait_of : List ℕ → Option (Option ℕ)
wait_of text = wait_in text

-- whether the domain is bound to its key, and the wait, of what stands behind `keyed` and behind `free`
abbrev pub binding_in : Option (List ℕ) → Option (List ℕ) → Option (Bool × Option ℕ)
binding_in (Some text) free = option_map (λ wait. (true, wait)) (wait_of text)
binding_in None (Some text) = option_map (λ wait. (false, wait)) (wait_of text)
binding_in None None = None

-- `keyed` or `free`, and the wait
unfoldable pub binding_of : List ℕ → Option (Bool × Option ℕ)
binding_of word = binding_in (behind (codes "keyed") word) (behind (codes "free") word)

-- ---- pieces of composed bytes

-- three numbers
abbrev pub three_numbers_of : List (List ℕ) → Option (ℕ × ℕ × ℕ)
three_numbers_of (message ∷ from ∷ to ∷ []) =
    option_and_then (λ m. option_and_then (λ a. option_map (λ b. (m, a, b)) (number_of to)) (number_of from))
    (number_of message)
three_numbers_of words = None

-- a message, the place of a first byte in it, and the place behind the last, with `:` between each two
unfoldable pub slice_of : List ℕ → Option (ℕ × ℕ × ℕ)
slice_of word = three_numbers_of (parts_of 58 word)

-- `x` and the hex of some bytes, or `m` and a slice of a message
abbrev pub is_piece_in : List ℕ → Bool
is_piece_in [] = false
is_piece_in (mark ∷ word) =
    if mark == 120 then is_hex word else (if mark == 109 then is_some (slice_of word) else false)

-- whether a word is a piece of bytes that are composed
unfoldable pub is_piece : List ℕ → Bool
is_piece word = is_piece_in word
