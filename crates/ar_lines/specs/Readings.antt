-- What is read of lines. A grammar of lines joins readings by >>=, one behind the other, so that its
-- refusal is that of the first line that is not of its form:
--
--     entry_at at = do
--       epoch ← word_at number_of at
--       text ← word_at bytes_of_hex epoch.1
--       Ok (record { epoch = epoch.0; text = text.0 }, text.1)
use Rattle.std.specs.Prelude.{◌≡◌, ℕ, ◌+◌, List, [], ◌∷◌, Option, Result, Ok, Err}
use Rattle.std.specs.Option.{ok_or}
use Rattle.ar_base.specs.Chaining.{◌>>=◌}
use Rattle.ar_base.specs.Gives.{Gives, GivesOrWants, GivesUnless, with_error}
use Rattle.ar_lines.specs.Lines.{lines_of}
use Rattle.ar_lines.specs.Refusals.{refused}
use Rattle.ar_lines.specs.declared.refusal.LineFault.{LineFault}
use Rattle.ar_lines.specs.declared.refusal.LineFault.TheVariants.{Refused, Memory}
use Rattle.ar_lines.specs.declared.refusal.Reason.TheVariants.{Words, Field}
use Rattle.ar_lines.specs.declared.refusal.Refusal.{Refusal}

-- where a reading stands: the number of the next line, and the lines that are still ahead
pub record LineCursor : Type 0 where
  pub next : ℕ
  pub ahead : List (List ℕ)

-- before the first line of an input
abbrev pub start_of_lines : List ℕ → LineCursor
start_of_lines input = record { next = 1; ahead = lines_of input }

-- a value and the cursor behind its lines, or the line that is refused
abbrev pub LineReading : Type 0 → Type 0
LineReading T = Result (T × LineCursor) Refusal

-- a word, with the number of its line and its own number in that line, from 0
pub record WordAt : Type 0 where
  pub line : ℕ
  pub number : ℕ
  pub text : List ℕ

-- the next line of these, as one word; a missing one is refused as `words`
abbrev pub next_of : ℕ → List (List ℕ) → LineReading WordAt
next_of next [] = refused next Words
next_of next (line ∷ ahead) = Ok (record { line = next; number = 0; text = line }, record { next = next + 1; ahead = ahead })

-- the next line, as one word
unfoldable pub line_at : LineCursor → LineReading WordAt
line_at at = next_of at.next at.ahead

-- what a word spells, where it is of its form; else it is refused as `field`
abbrev pub spelled : {T : Type 0} → WordAt → Option T → Result T Refusal
spelled word value = ok_or value (record { line = word.line; reason = Field word.number })

-- the next line, which is one word of a form
unfoldable pub word_at : {T : Type 0} → (List ℕ → Option T) → LineCursor → LineReading T
word_at form at = do
  line ← line_at at
  value ← spelled line.0 (form line.0.text)
  Ok (value, line.1)

-- no line is left of these; one too many is refused as `words`
abbrev pub no_line_of : ℕ → List (List ℕ) → Result (Unit {0}) Refusal
no_line_of next [] = Ok tt
no_line_of next (line ∷ ahead) = refused next Words

-- no line is left
abbrev pub no_line_at : LineCursor → Result (Unit {0}) Refusal
no_line_at at = no_line_of at.next at.ahead

-- ---- answers of the readers

-- The call gave what the definition of a reading gives, and stands behind its lines then.
abbrev pub Follows : {T V : Type 0} → (T → V) → Result T Refusal → LineCursor → LineReading V → Type 0
Follows view result new reading = Gives (λ value. (view value, new)) result reading

-- ---- answers of those that may find no memory

-- The call gave what the definition of a reading gives, or memory ran out.
abbrev pub ReadsUnless : {T V : Type 0} → (T → V) → Result T LineFault → Result V Refusal → Type 0
ReadsUnless view result reading = GivesUnless Memory view result (with_error Refused reading)

-- The same, where memory is taken only for a value: want of memory never stands in a refusal's place.
abbrev pub ReadsOrWants : {T V : Type 0} → (T → V) → Result T LineFault → Result V Refusal → Type 0
ReadsOrWants view result reading = GivesOrWants Memory view result (with_error Refused reading)

-- What a reader gave that stands behind the lines then, or memory ran out.
abbrev pub FollowsUnless : {T V : Type 0} → (T → V) → Result T LineFault → LineCursor → LineReading V → Type 0
FollowsUnless view result new reading =
    GivesUnless Memory (λ value. (view value, new)) result (with_error Refused reading)
