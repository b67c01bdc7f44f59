-- Which texts are names of domains, and where a text that is none goes wrong: labels of a to z, 0 to 9 and
-- `-` are separated by dots; no label is empty, begins or ends with `-`, or has more than 63 bytes; a
-- name has at most 253 bytes.
use Rattle.std.specs.Prelude.{◌≡◌, ◌≢◌, ℕ, ◌+◌, ◌-◌, ◌<◌, ◌≤◌, ◌⊎◌, Bool, true, false, not, ◌&&◌, ◌||◌, nat_le, ◌==◌, if◌then◌else◌, List, ◌∷◌, length, slice_index, slice_range, Option, Some, None, is_none}
use Rattle.std.specs.List.{list_any, find, range_with_len}
use Rattle.std.specs.Option.{option_or}
use Rattle.sha2.specs.Sha256.{sha256}
use Rattle.ar_base.specs.Ranges.{is_from_to}

-- `.`
abbrev pub dot : ℕ
dot = 46

-- `-`
abbrev pub dash : ℕ
dash = 45

-- a to z, 0 to 9 or `-`
abbrev pub is_label_byte : ℕ → Bool
is_label_byte c = is_from_to 97 122 c || is_from_to 48 57 c || c == dash

-- the place is the first of a label: the first of the text, or directly after a dot
abbrev pub is_first_in_label : List ℕ → ℕ → Bool
is_first_in_label text k = k == 0 || slice_index text (k - 1) == dot

-- the place is directly after a `-`
abbrev pub is_after_dash : List ℕ → ℕ → Bool
is_after_dash text k = not (k == 0) && slice_index text (k - 1) == dash

-- the label of the place has 63 bytes before it: no dot is among the 63 bytes before the place
abbrev pub is_after_full_label : List ℕ → ℕ → Bool
is_after_full_label text k = nat_le 63 k && not (list_any (λ c. c == dot) (slice_range text (k - 63) k))

-- The byte at place k is wrong: it is past the longest name; or no byte of names; or a dot or `-` that
-- begins a label; or a dot after a `-`; or it makes its label longer than 63 bytes.
unfoldable pub is_wrong_at : List ℕ → ℕ → Bool
is_wrong_at text k =
    let c = slice_index text k in
    nat_le 253 k
    || not (is_label_byte c || c == dot)
    || ((c == dot || c == dash) && is_first_in_label text k)
    || (c == dot && is_after_dash text k)
    || (not (c == dot) && is_after_full_label text k)

-- the text cannot end here: it is empty, or ends with a dot or `-`
unfoldable pub is_open : List ℕ → Bool
is_open text =
    let last = slice_index text (length text - 1) in
    length text == 0 || last == dot || last == dash

-- The first fault of a text: the least place whose byte is wrong; where there is none, the end of a text
-- that cannot end there. A name has none.
unfoldable pub first_fault_of : List ℕ → Option ℕ
first_fault_of text =
    option_or (find (is_wrong_at text) (range_with_len 0 (length text))) (if is_open text then Some (length text) else None)

-- the text is a name
abbrev pub IsName : List ℕ → Type 0
IsName text = first_fault_of text ≡ None

-- the test of it
abbrev pub is_name : List ℕ → Bool
is_name text = is_none (first_fault_of text)

-- just n bytes of a label stand before place k: n bytes that are no dots, and before them a dot or nothing
pub record StandBefore (text : List ℕ) (k n : ℕ) : Type 0 where
  pub within : n ≤ k
  pub same_label : (i : ℕ) → k ≤ i + n → i < k → slice_index text i ≢ dot
  pub whole_label : n < k → slice_index text (k - (n + 1)) ≡ dot

-- the string whose digest is the key of a name in the integrity tree
abbrev pub name_string : List ℕ → List ℕ
name_string text = 0x11 ∷ text

-- the key
abbrev pub name_digest_of : List ℕ → List ℕ
name_digest_of text = sha256 (name_string text)

-- no place before p is wrong
abbrev pub NoneWrongBefore : List ℕ → ℕ → Type 0
NoneWrongBefore text p = (k : ℕ) → k < p → is_wrong_at text k ≡ false

-- p is the first fault: no place before it is wrong, and it is wrong, or the end of a text that is open
pub record IsFirstFault (text : List ℕ) (p : ℕ) : Type 0 where
  pub least : NoneWrongBefore text p
  pub fault : ((p < length text) × (is_wrong_at text p ≡ true)) ⊎ ((p ≡ length text) × (is_open text ≡ true))
