-- Lines and words as they are written, and what it is that a form reads what is written and nothing else.
use Rattle.std.specs.Prelude.{◌≡◌, ℕ, List, [], ◌∷◌, ◌++◌, Option, Some}
use Rattle.std.specs.List.{flat_map}
use Rattle.hex.specs.Hex.{IsBytes, encode_lower}
use Rattle.lms_tree.specs.PublicKey.{HasWidths, key_text}
use Rattle.lms_tree.specs.declared.public_key.LmsPublic.{LmsPublic}

-- the text of these lines: each is ended by a newline
abbrev pub text_of_lines : List (List ℕ) → List ℕ
text_of_lines lines = flat_map (λ line. line ++ (10 ∷ [])) lines

-- a line of a name and the text of its fields
abbrev pub named : List ℕ → List ℕ → List ℕ
named name fields = name ++ (32 ∷ fields)

-- the hex of a key's text
abbrev pub hex_of_key : LmsPublic → List ℕ
hex_of_key key = encode_lower (key_text key)

-- a key as a program holds one: I is 16 bytes, and T[1] is 32
pub record IsKey (key : LmsPublic) : Type 0 where
  pub widths : HasWidths key
  pub id : IsBytes key.id
  pub root : IsBytes key.root

-- what is written of each of these values is of the form, and spells the value
abbrev pub IsReadAsWritten : {T : Type 0} → (List ℕ → Option T) → (T → List ℕ) → (T → Type 0) → Type 0
IsReadAsWritten {T = T} form write Is = (value : T) → Is value → form (write value) ≡ Some value

-- a word of the form is what is written of the value that it spells
abbrev pub WritesBack : {T : Type 0} → (List ℕ → Option T) → (T → List ℕ) → Type 0
WritesBack {T = T} form write = (word : List ℕ) (value : T) → form word ≡ Some value → write value ≡ word
