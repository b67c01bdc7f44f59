-- What `audit` is asked: a directory and signed statements, and the lines that they are read from.
use Rattle.std.specs.Prelude.{ℕ, zero, suc, Bool, if◌then◌else◌, is_ok, List, [], ◌∷◌, ◌++◌, codes, Result, Ok}
use Rattle.ar_base.specs.Chaining.{◌>>=◌}
use Rattle.ar_base.specs.Ranges.{is_from_to}
use Rattle.ar_lines.specs.Forms.{bytes_of_hex}
use Rattle.ar_lines.specs.Readings.{LineCursor, LineReading, spelled}
use Rattle.ar_lines.specs.Refusals.{refused}
use Rattle.ar_lines.specs.Rows.{no_row_at, two_fields_at}
use Rattle.ar_lines.specs.declared.refusal.Reason.TheVariants.{Limit}
use Rattle.ar_lines.specs.declared.refusal.Refusal.{Refusal}
use Rattle.arpki_ask.specs.Inquiries.{directory_at}
use Rattle.monitor.specs.declared.item.Item.{Item}
use Rattle.party_keys.specs.Directory.{Directory}

-- the keys of the directory, and the items
pub record Audit : Type 0 where
  pub keys : Directory
  pub items : List Item

-- the number of an item's line, of 32 bits; an input that is not too long has no line with another number
abbrev pub line_in : ℕ → Result ℕ Refusal
line_in line = if is_from_to 1 4294967295 line then Ok line else refused line Limit

-- `statement <hex text> <hex sig>`: the next item
unfoldable pub statement_at : LineCursor → LineReading Item
statement_at at = do
  fields ← two_fields_at (codes "statement") at
  text ← spelled fields.0.0 (bytes_of_hex fields.0.0.text)
  signature ← spelled fields.0.1 (bytes_of_hex fields.0.1.text)
  line ← line_in fields.0.0.line
  Ok (record { line = line; text = text; signature = signature }, fields.1)

-- no line is left
abbrev pub is_over : LineCursor → Bool
is_over at = is_ok (no_row_at at)

-- no line is left; a statement more is refused as `limit`, where nothing else is wrong with its line
unfoldable pub no_more_at : LineCursor → LineReading (Unit {0})
no_more_at at = if is_over at then Ok (tt, at) else (statement_at at >>= λ item. refused item.0.line Limit)

-- these items, and behind them those of at most so many lines, up to the end of the input
unfoldable pub statements_at : ℕ → List Item → LineCursor → LineReading (List Item)
statements_at zero items at = no_more_at at >>= λ end. Ok (items, end.1)
statements_at (suc more) items at =
    if is_over at then Ok (items, at) else (statement_at at >>= λ next. statements_at more (items ++ next.0 ∷ []) next.1)

-- how many there may be
abbrev pub most_statements : ℕ
most_statements = 10000

-- the directory, as in `check`, and the items behind it, up to the end of the input
unfoldable pub audit_at : LineCursor → Result Audit Refusal
audit_at at = do
  keys ← directory_at at
  items ← statements_at most_statements [] keys.1
  Ok (record { keys = keys.0; items = items.0 })
