-- Fields that are joined to one: one behind the other, one that is there or not.
use Rattle.std.specs.Prelude.{ℕ, true, false, List, ◌++◌, Option, Some, None, Ok, if◌then◌else◌}
use Rattle.ar_base.specs.Chaining.{◌>>=◌}
use Rattle.ar_bytes.specs.Reading.{Cursor, Reading, mapped_at}
use Rattle.ar_bytes.specs.Tested.{flag_at, flag_text}

-- a field, and a field behind it
abbrev pub pair_at : {A B : Type 0} → (Cursor → Reading A) → (Cursor → Reading B) → Cursor → Reading (A × B)
pair_at first second at = do
  a ← first at
  b ← second a.1
  Ok ((a.0, b.0), b.1)

-- a flag, and for 1 the field
unfoldable pub optional_at : {A : Type 0} → (Cursor → Reading A) → Cursor → Reading (Option A)
optional_at field at = do
  flag ← flag_at at
  if flag.0 then mapped_at Some field flag.1 else Ok (None, flag.1)

-- its text
unfoldable pub optional_text : {A : Type 0} → (A → List ℕ) → Option A → List ℕ
optional_text text None = flag_text false
optional_text text (Some x) = flag_text true ++ text x
