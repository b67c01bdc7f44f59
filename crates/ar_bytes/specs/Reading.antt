-- What it means to read a field, and the word in which every grammar of bytes is written.
--
-- A cursor is where a reading stands: the bytes still ahead, and the place, which is how many bytes of
-- the whole input lie before them. A field is a function from a cursor to a reading: the value and the
-- cursor behind the field, or the place in the whole input of the first byte of the field that fails.
--
-- A grammar joins fields by >>=, one behind the other, so that its fault is that of the first field that
-- fails. A field fails at its first byte: where too few bytes are ahead (`bytes_at`, `number_at`), or
-- where its value is none that it may have (`such_that`, `known_at`). A field of a grammar reads as its table says:
--
--     vote_at at = do
--       log ← number_at w16 at
--       epoch ← such_that is_epoch (number_at w64) log.1
--       Ok (record { log = log.0; epoch = epoch.0 }, epoch.1)
--
-- A count and the bytes that it counts are two fields (`counted_at`). A counted part that has a grammar
-- of its own is read `within` its count: no field in it reads past its end, its places are those in
-- the whole input, and bytes left over in it fail at the first of them, as in a whole input (`whole`).
use Rattle.std.specs.Prelude.{◌≡◌, ℕ, ◌+◌, List, length, take, drop, Option, Some, None, Result, Ok, Err, Bool, nat_lt, ◌==◌, if◌then◌else◌}
use Rattle.std.specs.Int.{Width, w16, byte_len, from_be_bytes}
use Rattle.std.specs.Option.{ok_or}
use Rattle.ar_base.specs.Chaining.{◌>>=◌}
use Rattle.ar_base.specs.Gives.{with_error, Gives, GivesOrWants}

-- where a reading stands: the bytes still ahead, and how many bytes of the input lie before them
pub record Cursor : Type 0 where
  pub ahead : List ℕ
  pub place : ℕ

-- a value and the cursor behind it, or the place of the field that fails
abbrev pub Reading : Type 0 → Type 0
Reading A = Result (A × Cursor) ℕ

-- before the first byte of an input
abbrev pub start_of : List ℕ → Cursor
start_of bytes = record { ahead = bytes; place = 0 }

-- n bytes further on
abbrev pub behind : ℕ → Cursor → Cursor
behind n at = record { ahead = drop n at.ahead; place = at.place + n }

-- n bytes as they stand
unfoldable pub bytes_at : ℕ → Cursor → Reading (List ℕ)
bytes_at n at = if nat_lt (length at.ahead) n then Err at.place else Ok (take n at.ahead, behind n at)

-- a number, its highest byte first
unfoldable pub number_at : Width → Cursor → Reading ℕ
number_at w at = do
  bytes ← bytes_at (byte_len w) at
  Ok (from_be_bytes w bytes.0, bytes.1)

-- a count of two bytes, and so many bytes
unfoldable pub counted_at : Cursor → Reading (List ℕ)
counted_at at = do
  count ← number_at w16 at
  bytes_at count.0 count.1

-- a field whose value passes a test
unfoldable pub such_that : {A : Type 0} → (A → Bool) → (Cursor → Reading A) → Cursor → Reading A
such_that test field at = do
  x ← field at
  if test x.0 then Ok x else Err at.place

-- the value that a field stands for
abbrev pub mapped_at : {A B : Type 0} → (A → B) → (Cursor → Reading A) → Cursor → Reading B
mapped_at value field at = do
  x ← field at
  Ok (value x.0, x.1)

-- the same, where the field stands for a value; else it fails
abbrev pub known_at : {A B : Type 0} → (A → Option B) → (Cursor → Reading A) → Cursor → Reading B
known_at value field at = do
  x ← field at
  known ← ok_or (value x.0) at.place
  Ok (known, x.1)

-- n bytes as an input of their own, whose places are those of the whole input
unfoldable pub part_at : ℕ → Cursor → Reading Cursor
part_at n at = do
  bytes ← bytes_at n at
  Ok (record { ahead = bytes.0; place = at.place }, bytes.1)

-- a count of two bytes, and so many bytes as an input of their own
unfoldable pub counted_part_at : Cursor → Reading Cursor
counted_part_at at = do
  count ← number_at w16 at
  part_at count.0 count.1

-- the value of a reading that took all there was; bytes left over fail at the first of them
abbrev pub all_of : {A : Type 0} → A × Cursor → Result A ℕ
all_of x = if length x.1.ahead == 0 then Ok x.0 else Err x.1.place

-- a whole input that is one field
unfoldable pub whole : {A : Type 0} → (Cursor → Reading A) → List ℕ → Result A ℕ
whole field bytes = field (start_of bytes) >>= all_of

-- a part of n bytes that is one field
unfoldable pub within : {A : Type 0} → ℕ → (Cursor → Reading A) → Cursor → Reading A
within n field at = do
  part ← part_at n at
  value ← field part.0 >>= all_of
  Ok (value, part.1)

-- The answer of a reader of one field, as contracts see it by `view`: the field's value, and the reader
-- stands behind the field; or none, where the field fails at its first byte, and nothing is taken.
abbrev pub Reads : {T V : Type 0} → (T → V) → Option T → Cursor → Cursor → Reading V → Type 0
Reads view (Some x) old new field = field ≡ Ok (view x, new)
Reads view None old new field = (field ≡ Err old.place) × (new ≡ old)

-- The answer of a reader that tells where it fails: the fields' value, and it stands behind them; or the
-- place of the field that fails.
abbrev pub Tells : {T V : Type 0} → (T → V) → Result T ℕ → Cursor → Reading V → Type 0
Tells view result new fields = Gives (λ x. (view x, new)) result fields

-- The answer of a reader that takes memory and tells where it fails: the fields' value, and it stands
-- behind them; or the place of the field that fails, as a fault of form; or want of memory, where none fails.
abbrev pub TellsOrWants : {T V E : Type 0} → (ℕ → E) → E → (T → V) → Result T E → Cursor → Reading V → Type 0
TellsOrWants form memory view result new fields = GivesOrWants memory (λ x. (view x, new)) result (with_error form fields)
