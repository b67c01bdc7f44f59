-- Named lines: text whose first word says what the line is, with its fields behind it.
use Rattle.std.specs.Prelude.{ℕ, Bool, false, if◌then◌else◌, List, [], ◌∷◌, Option, Result, Ok}
use Rattle.std.specs.Str.{bytes_eq}
use Rattle.ar_lines.specs.Lines.{is_text, words_of}
use Rattle.ar_base.specs.Chaining.{◌>>=◌}
use Rattle.ar_lines.specs.Readings.{LineCursor, LineReading, WordAt, line_at, spelled}
use Rattle.ar_lines.specs.Refusals.{refused}
use Rattle.ar_lines.specs.declared.refusal.Reason.TheVariants.{Text, Word, Words}
use Rattle.ar_lines.specs.declared.refusal.Refusal.{Refusal}

-- a named line: its number, and its words behind the first
pub record NamedLine : Type 0 where
  pub line : ℕ
  pub fields : List (List ℕ)

-- the row of these words, the first of which has to be this one
abbrev pub row_of : List ℕ → ℕ → List (List ℕ) → Result NamedLine Refusal
row_of name line [] = refused line Word
row_of name line (word ∷ fields) =
    if bytes_eq word name then Ok (record { line = line; fields = fields }) else refused line Word

-- the next line, which has to be text and to begin with this word
unfoldable pub row_at : List ℕ → LineCursor → LineReading NamedLine
row_at name at = do
  line ← line_at at
  row ← (if is_text line.0.text then row_of name line.0.line (words_of line.0.text) else refused line.0.line Text)
  Ok (row, line.1)

-- its one field
abbrev pub only_of : ℕ → List (List ℕ) → Result WordAt Refusal
only_of line [] = refused line Words
only_of line (field ∷ []) = Ok (record { line = line; number = 1; text = field })
only_of line (field ∷ next ∷ more) = refused line Words

-- its two fields
abbrev pub both_of : ℕ → List (List ℕ) → Result (WordAt × WordAt) Refusal
both_of line [] = refused line Words
both_of line (first ∷ []) = refused line Words
both_of line (first ∷ second ∷ []) =
    Ok (record { line = line; number = 1; text = first }, record { line = line; number = 2; text = second })
both_of line (first ∷ second ∷ next ∷ more) = refused line Words

-- the next line, which has this name and one field
unfoldable pub field_at : List ℕ → LineCursor → LineReading WordAt
field_at name at = do
  row ← row_at name at
  field ← only_of row.0.line row.0.fields
  Ok (field, row.1)

-- the next line, which has this name and one field, of this form
unfoldable pub value_at : {T : Type 0} → List ℕ → (List ℕ → Option T) → LineCursor → LineReading T
value_at name form at = do
  field ← field_at name at
  value ← spelled field.0 (form field.0.text)
  Ok (value, field.1)

-- the next line, which has this name and two fields
unfoldable pub two_fields_at : List ℕ → LineCursor → LineReading (WordAt × WordAt)
two_fields_at name at = do
  row ← row_at name at
  fields ← both_of row.0.line row.0.fields
  Ok (fields, row.1)

-- these words begin with this one
abbrev pub begin_with : List ℕ → List (List ℕ) → Bool
begin_with name [] = false
begin_with name (word ∷ fields) = bytes_eq word name

-- a line is ahead, and its first word is this one
abbrev pub first_begins_with : List ℕ → List (List ℕ) → Bool
first_begins_with name [] = false
first_begins_with name (line ∷ ahead) = begin_with name (words_of line)

-- the next line begins with this word
abbrev pub is_next : List ℕ → LineCursor → Bool
is_next name at = first_begins_with name at.ahead

-- no line is left of these; one too many is refused as `text` or as `word`, since it has no name that could stand there
abbrev pub no_row_of : ℕ → List (List ℕ) → Result (Unit {0}) Refusal
no_row_of next [] = Ok tt
no_row_of next (line ∷ ahead) = if is_text line then refused next Word else refused next Text

-- no line is left
abbrev pub no_row_at : LineCursor → Result (Unit {0}) Refusal
no_row_at at = no_row_of at.next at.ahead
