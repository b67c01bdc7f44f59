-- The texts of fields: what is put is read again, and what is read is spelled so.
use Rattle.std.specs.Prelude.{◌≡◌, ℕ, ◌+◌, ◌<◌, List, ◌++◌, length, Ok}
use Rattle.std.specs.Int.{Width, w16, to_be_bytes}
use Rattle.ar_base.specs.Bytes.{AreBytes}
use Rattle.ar_bytes.specs.Reading.{Cursor, Reading, number_at}

-- the text of a number: its bytes, the highest first
unfoldable pub number_text : Width → ℕ → List ℕ
number_text w n = to_be_bytes w n

-- the text of counted bytes: their count in two bytes, and the bytes
abbrev pub counted_text : List ℕ → List ℕ
counted_text bytes = number_text w16 (length bytes) ++ bytes

-- `text` stands ahead of the cursor `old`, and `new` is behind it
pub record Passes (old : Cursor) (text : List ℕ) (new : Cursor) : Type 0 where
  pub bytes : old.ahead ≡ text ++ new.ahead
  pub place : new.place ≡ old.place + length text

-- wherever a value's text stands and whatever follows it, the field reads the value and passes the text
abbrev pub ReadsBack : {A : Type 0} → (Cursor → Reading A) → A → List ℕ → Type 0
ReadsBack field value text = (at new : Cursor) → Passes at text new → field at ≡ Ok (value, new)

-- whatever number of the width is put, it is read again
abbrev pub NumbersReadBack : Width → ℕ → Type 0
NumbersReadBack w limit = (n : ℕ) → n < limit → ReadsBack (number_at w) n (number_text w n)

-- where the field gives a value, the value's text is what it passed, and the value is one that fits
abbrev pub IsSpelledBy : {A : Type 0} → (Cursor → Reading A) → (A → List ℕ) → (A → Type 0) → Type 0
IsSpelledBy {A} field text fits =
    (at new : Cursor) (value : A) → AreBytes at.ahead → field at ≡ Ok (value, new) → Passes at (text value) new × fits value
