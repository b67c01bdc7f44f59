-- What a caller keeps of a name that is pinned, and the links that it gives: texts of changes, one behind the other, and
-- the book that they make.
use Rattle.std.specs.Prelude.{ℕ, zero, suc, ◌==◌, if◌then◌else◌, List, [], ◌∷◌, ◌++◌, length, Result, Ok, Err}
use Rattle.std.specs.Str.{bytes_eq}
use Rattle.ar_base.specs.Chaining.{◌>>=◌}
use Rattle.ar_base.specs.Gives.{with_error}
use Rattle.ar_bytes.specs.Reading.{Cursor, start_of}
use Rattle.ar_cert.specs.Changes.{Change, change_at}
use Rattle.client_memory.specs.Answers.{added}
use Rattle.client_memory.specs.Book.{Pin}
use Rattle.arpki_c.specs.declared.pins.PinFault.{PinFault}
use Rattle.arpki_c.specs.declared.pins.PinFault.TheVariants as pin_fault

-- ---- texts of changes

-- how many changes may stand there
abbrev pub most_changes : ℕ
most_changes = 4096

-- the change that stands next, or what is wrong where none does
unfoldable pub next_change : PinFault → Cursor → Result (Change × Cursor) PinFault
next_change wrong at = with_error (λ place. wrong) (change_at at)

-- these changes, and behind them those whose texts stand from here to the end, of which there may be so many more; or what is
-- wrong, where other bytes stand there, or more changes
unfoldable pub changes_behind : PinFault → ℕ → List Change → Cursor → Result (List Change) PinFault
changes_behind wrong zero front at = if length at.ahead == 0 then Ok front else Err wrong
changes_behind wrong (suc more) front at =
    if length at.ahead == 0 then Ok front else
    (next_change wrong at >>= λ next. changes_behind wrong more (front ++ next.0 ∷ []) next.1)

-- the changes whose texts are these bytes, one behind the other; or what is wrong, where they are not those of at most 4,096
abbrev pub changes_in : PinFault → List ℕ → Result (List Change) PinFault
changes_in wrong bytes = changes_behind wrong most_changes [] (start_of bytes)

-- ---- the book of a name

-- the name of these changes, where it is the one that is asked for
abbrev pub name_among : List ℕ → List Change → Result (List ℕ) PinFault
name_among name [] = Err pin_fault.Form
name_among name (first ∷ later) = if bytes_eq first.cert.name name then Ok first.cert.name else Err pin_fault.Name

-- a book with nothing but these changes of a name, where each next one follows the one before it
abbrev pub book_with : List ℕ → List Change → Result (List Pin) PinFault
book_with name chain = with_error (λ why. pin_fault.Chain) (added [] name chain)

-- the same of changes whose texts were stored
abbrev pub book_read : List ℕ → List ℕ → Result (List Pin) PinFault
book_read name pin = do
  chain ← changes_in pin_fault.Form pin
  own ← name_among name chain
  book_with own chain

-- the book of who stored these bytes of a name: where there are none, nothing is pinned
unfoldable pub book_stored : List ℕ → List ℕ → Result (List Pin) PinFault
book_stored name pin = if length pin == 0 then Ok [] else book_read name pin
