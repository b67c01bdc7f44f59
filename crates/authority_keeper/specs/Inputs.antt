-- What an authority is asked, and the text of it, as its journal has it.
use Rattle.std.specs.Prelude.{◌≡◌, ℕ, ◌==◌, List, [], ◌∷◌, ◌++◌, length, take, drop, Option, None, Some, if◌then◌else◌}
use Rattle.std.specs.Option.{option_map}
use Rattle.ar_names.specs.Names.{IsName, is_name}
use Rattle.lms_tree.specs.PublicKey.{HasWidths, key_of_text, key_text}
use Rattle.lms_tree.specs.declared.public_key.LmsPublic.{LmsPublic}

-- what an authority is asked, as plain data
pub data Input : Type 0 where
  -- to take a message
  takes : (bytes : List ℕ) → Input
  -- to go on to this key
  rolls : (key : LmsPublic) → Input
  -- its check is to know that the name has this key
  learns : (name : List ℕ) (key : List ℕ) → Input
  -- its check is to know it no longer
  forgets : (name : List ℕ) (key : List ℕ) → Input
  -- it drops its check
  retires : Input

-- 1 and the message, 2 and the key to which it goes on, 3 (it learns) or 4 (it forgets) and the text of a key and a name, or 5
abbrev pub input_text : Input → List ℕ
input_text (takes bytes) = 1 ∷ bytes
input_text (rolls key) = 2 ∷ key_text key
input_text (learns name key) = 3 ∷ (key ++ name)
input_text (forgets name key) = 4 ∷ (key ++ name)
input_text retires = 5 ∷ []

-- how many bytes the text of a key has
abbrev pub key_len : ℕ
key_len = 56

-- a roll to the key whose text this is
abbrev pub rolled_in : List ℕ → Option Input
rolled_in bytes = option_map rolls (key_of_text bytes)

-- a lesson on the name that stands behind a key
abbrev pub lesson_in : (List ℕ → List ℕ → Input) → List ℕ → Option Input
lesson_in lesson bytes =
    if is_name (drop key_len bytes) then Some (lesson (drop key_len bytes) (take key_len bytes)) else None

-- it retires, where nothing stands behind that
abbrev pub retired_in : List ℕ → Option Input
retired_in [] = Some retires
retired_in (byte ∷ rest) = None

-- the input whose kind and bytes these are
abbrev pub input_of_kind : ℕ → List ℕ → Option Input
input_of_kind kind rest =
    if kind == 1 then Some (takes rest)
    else (if kind == 2 then rolled_in rest
    else (if kind == 3 then lesson_in learns rest
    else (if kind == 4 then lesson_in forgets rest
    else (if kind == 5 then retired_in rest else None))))

-- what a text says
abbrev pub input_in : List ℕ → Option Input
input_in [] = None
input_in (kind ∷ rest) = input_of_kind kind rest

-- an input as a program has it: a key has its widths, the text of a key its length, and a name is one
abbrev pub IsWhole : Input → Type 0
IsWhole (takes bytes) = Unit {0}
IsWhole (rolls key) = HasWidths key
IsWhole (learns name key) = (length key ≡ key_len) × IsName name
IsWhole (forgets name key) = (length key ≡ key_len) × IsName name
IsWhole retires = Unit {0}
