-- Rolls: the statements by which a party announces its next key.
use Rattle.std.specs.Prelude.{ℕ, ◌==◌, ◌&&◌, not, Bool, List, count_by, slice_index, take, drop}
use Rattle.std.specs.Int.{w32, from_be_bytes}
use Rattle.key_roll.specs.declared.signed.SignedText.{SignedText}

-- the text is a Roll's: its kind is 10
abbrev pub is_roll : List ℕ → Bool
is_roll text = slice_index text 0 == 10

-- the generation that the text of a Roll names, behind its kind and its signer
abbrev pub named_generation : List ℕ → ℕ
named_generation text = from_be_bytes w32 (take 4 (drop 4 text))

-- how many entries of a generation are no Rolls, and how many are
abbrev pub is_plain_of : ℕ → SignedText → Bool
is_plain_of g s = (s.generation == g) && not (is_roll s.text)

abbrev pub is_roll_of : ℕ → SignedText → Bool
is_roll_of g s = (s.generation == g) && is_roll s.text

abbrev pub plain_count : ℕ → List SignedText → ℕ
plain_count g list = count_by (is_plain_of g) list

abbrev pub roll_count : ℕ → List SignedText → ℕ
roll_count g list = count_by (is_roll_of g) list
