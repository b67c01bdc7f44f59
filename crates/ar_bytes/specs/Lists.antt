-- Lists of entries, one behind the other, and lists behind their count in one byte.
use Rattle.std.specs.Prelude.{ℕ, zero, suc, List, [], ◌∷◌, ◌++◌, length, Ok}
use Rattle.std.specs.List.{flat_map}
use Rattle.std.specs.Int.{w8}
use Rattle.ar_base.specs.Chaining.{◌>>=◌}
use Rattle.ar_bytes.specs.Reading.{Cursor, Reading}
use Rattle.ar_bytes.specs.RoundTrip.{number_text}
use Rattle.ar_bytes.specs.Tested.{count_at}

-- so many entries, one behind the other
unfoldable pub list_at : {A : Type 0} → (Cursor → Reading A) → ℕ → Cursor → Reading (List A)
list_at entry zero at = Ok ([], at)
list_at entry (suc count) at = do
  first ← entry at
  rest ← list_at entry count first.1
  Ok (first.0 ∷ rest.0, rest.1)

-- a count of one byte that is at most `most`, and so many entries
unfoldable pub counted_list_at : {A : Type 0} → ℕ → (ℕ → Cursor → Reading (List A)) → Cursor → Reading (List A)
counted_list_at most entries at = do
  count ← count_at most at
  entries count.0 count.1

-- entries behind their count
abbrev pub counted_list_text : {A : Type 0} → (A → List ℕ) → List A → List ℕ
counted_list_text text xs = number_text w8 (length xs) ++ flat_map text xs
