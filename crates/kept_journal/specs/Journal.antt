-- The bytes of a journal, and the texts that a file stands for.
use Rattle.std.specs.Prelude.{◌≡◌, ◌≢◌, ◌⊎◌, ℕ, zero, suc, ◌+◌, ◌<◌, ◌≤◌, ◌^◌, ◌==◌, List, [], ◌∷◌, ◌++◌, length, drop, Option, None, Some, if◌then◌else◌}
use Rattle.std.specs.Option.{option_map}
use Rattle.std.specs.Result.{result_ok}
use Rattle.std.specs.Int.{w32}
use Rattle.ar_base.specs.Chaining.{◌>>=◌}
use Rattle.ar_bytes.specs.Reading.{Cursor, Reading, bytes_at, number_at, start_of}
use Rattle.ar_bytes.specs.RoundTrip.{number_text}
use Rattle.std.specs.Prelude.{Ok, Err}

-- ---- what is written

-- a record behind its gate: the length of its text in four bytes, and the text
abbrev pub record_text : List ℕ → List ℕ
record_text text = number_text w32 (length text) ++ text

-- records of these texts, each behind its open gate
abbrev pub records : List (List ℕ) → List ℕ
records [] = []
records (text ∷ texts) = 1 ∷ (record_text text ++ records texts)

-- a journal of these texts, with this gate behind them, and this behind that
abbrev pub journal : List ℕ → List (List ℕ) → ℕ → List ℕ → List ℕ
journal mark texts gate behind = mark ++ (records texts ++ gate ∷ behind)

-- how many bytes a mark has
abbrev pub mark_len : ℕ
mark_len = 8

-- ---- what is read

-- a text behind its length, with at least a gate behind it
unfoldable pub record_at : Cursor → Reading (List ℕ)
record_at at = do
  len ← number_at w32 at
  text ← bytes_at len.0 len.1
  if length text.1.ahead == 0 then Err text.1.place else Ok text

-- the record that stands here, where it is whole: its text, and what stands behind it, from the next gate on
abbrev pub record_in : List ℕ → Option (List ℕ × List ℕ)
record_in bytes = option_map (λ r. (r.0, r.1.ahead)) (result_ok (record_at (start_of bytes)))

-- the record whose gate stands here, where that is open
abbrev pub open_record_in : List ℕ → Option (List ℕ × List ℕ)
open_record_in [] = None
open_record_in (gate ∷ rest) = if gate == 1 then record_in rest else None

-- a gate stands here that is not open
abbrev pub BeginsShut : List ℕ → Type 0
BeginsShut bytes = (gate : ℕ) × (behind : List ℕ) × (gate ≢ 1) × (bytes ≡ gate ∷ behind)

-- a text, and the texts behind it
abbrev pub with_more : (List ℕ → List (List ℕ)) → Option (List ℕ × List ℕ) → List (List ℕ)
with_more texts_in None = []
with_more texts_in (Some r) = r.0 ∷ texts_in r.1

-- the texts of at most so many records that stand here, up to the first gate that is not open
abbrev pub texts_in : ℕ → List ℕ → List (List ℕ)
texts_in zero bytes = []
texts_in (suc n) bytes = with_more (texts_in n) (open_record_in bytes)

-- The texts that a file has, up to the first gate that is not open. A file of at most 9 bytes has none.
abbrev pub recovered : List ℕ → List (List ℕ)
recovered file = texts_in (length file) (drop mark_len file)

-- ---- what a file stands for

-- each text is short enough for a record
abbrev pub AreShort : List (List ℕ) → Type 0
AreShort [] = Unit {0}
AreShort (text ∷ texts) = (length text < 2 ^ 32) × AreShort texts

-- A file is a journal of these texts: behind them is a gate that is not open, and anything behind that.
pub record IsJournal (mark : List ℕ) (texts : List (List ℕ)) (file : List ℕ) : Type 0 where
  pub gate : ℕ
  pub behind : List ℕ
  pub shut : gate ≢ 1
  pub is : file ≡ journal mark texts gate behind

-- A file stands for these texts: it is a journal of them; or there are none, and it has at most 9 bytes, as a file that was not
-- begun, or whose first write was cut short.
abbrev pub Stands : List ℕ → List (List ℕ) → List ℕ → Type 0
Stands mark texts file = AreShort texts × (((length file ≤ 9) × (texts ≡ [])) ⊎ IsJournal mark texts file)

-- it stands for these texts, or for them and this one behind them
abbrev pub IsBeforeOrAfter : List ℕ → List (List ℕ) → List ℕ → List ℕ → Type 0
IsBeforeOrAfter mark texts text file = Stands mark texts file ⊎ Stands mark (texts ++ text ∷ []) file

-- it is one that a crash before might have left; or the file stands for its texts, and this stands for the same
abbrev pub IsAsBefore : (List ℕ → Type 0) → List ℕ → List ℕ → List ℕ → Type 0
IsAsBefore may_leave mark file c = may_leave c ⊎ (Stands mark (recovered file) file × Stands mark (recovered file) c)

-- a file of more than 9 bytes that does not begin with the mark
abbrev pub IsNoJournal : List ℕ → List ℕ → Type 0
IsNoJournal mark file = (9 < length file) × ((rest : List ℕ) → file ≢ mark ++ rest)
