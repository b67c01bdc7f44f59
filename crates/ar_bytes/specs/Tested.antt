-- Fields of one byte that have to have some value, and their texts.
use Rattle.std.specs.Prelude.{ℕ, ◌==◌, nat_le, Bool, List}
use Rattle.std.specs.Int.{w8}
use Rattle.ar_base.specs.Counting.{one_if}
use Rattle.ar_bytes.specs.Reading.{Cursor, Reading, mapped_at, number_at, such_that}
use Rattle.ar_bytes.specs.RoundTrip.{number_text}

-- one byte with this value
abbrev pub byte_at : ℕ → Cursor → Reading ℕ
byte_at value = such_that (λ n. n == value) (number_at w8)

-- a number of one byte, at most `most`
abbrev pub count_at : ℕ → Cursor → Reading ℕ
count_at most = such_that (λ n. nat_le n most) (number_at w8)

-- a flag: one byte, 0 for no and 1 for yes
unfoldable pub flag_at : Cursor → Reading Bool
flag_at = mapped_at (λ n. n == 1) (count_at 1)

-- the text of a flag
abbrev pub flag_text : Bool → List ℕ
flag_text flag = number_text w8 (one_if flag)
