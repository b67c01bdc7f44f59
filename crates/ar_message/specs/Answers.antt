-- The answers of readers of messages.
use Rattle.std.specs.Prelude.{◌≡◌, ℕ, Result, Ok, Err, IfOk}
use Rattle.std.specs.declared.alloc.AllocError.{AllocError}
use Rattle.ar_base.specs.Chaining.{◌>>=◌}
use Rattle.ar_base.specs.Gives.{with_error, GivesOrWants}
use Rattle.ar_bytes.specs.Reading.{Cursor, Reading, all_of}
use Rattle.ar_message.specs.declared.fault.MessageFault.{MessageFault}
use Rattle.ar_message.specs.declared.fault.MessageFault.TheVariants.{Form, Memory}

-- The answer of a reader of one field that is all that is left: its value, or the place of what fails; or want of
-- memory, where nothing fails.
abbrev pub Fills : {A : Type 0} → Result A MessageFault → (Cursor → Reading A) → Cursor → Type 0
Fills result field at = GivesOrWants Memory (λ x. x) result (with_error Form (field at >>= all_of))

-- The answer of a reader that keeps want of memory back until all is read, as contracts see what was made by
-- `view`: the field has a value, behind which it stands, and this is what was made unless memory was wanting; or the
-- place of what fails.
abbrev pub Finds : {T V : Type 0} → (T → V) → Result (Result T AllocError) ℕ → Cursor → Reading V → Type 0
Finds {T} {V} view (Ok made) new field = (x : V) × ((field ≡ Ok (x, new)) × IfOk made (λ y. view y ≡ x))
Finds view (Err place) new field = field ≡ Err place
