-- What `check` is asked: an inquiry, and the lines that it is read from.
use Rattle.std.specs.Prelude.{ℕ, zero, suc, if◌then◌else◌, List, [], ◌∷◌, codes, Option, option_and_then, Result, Ok}
use Rattle.lms_tree.specs.declared.public_key.LmsPublic.{LmsPublic}
use Rattle.client_rule.specs.Rule.{Asked}
use Rattle.party_keys.specs.Directory.{Directory, directory_with}
use Rattle.script_text.specs.Forms.{party_count_of, quorum_of}
use Rattle.ar_lines.specs.Forms.{bytes_of_hex, key_of_hex, name_of, number_of}
use Rattle.ar_base.specs.Chaining.{◌>>=◌}
use Rattle.ar_lines.specs.Readings.{LineCursor, LineReading, spelled}
use Rattle.arpki_ask.specs.Notes.{learnt_from}
use Rattle.ar_lines.specs.Rows.{is_next, two_fields_at, no_row_at, value_at}
use Rattle.ar_lines.specs.declared.refusal.Refusal.{Refusal}

-- what a client asks, and the bytes of the confirmation that it was given
pub record Inquiry : Type 0 where
  pub asked : Asked
  pub confirmation : List ℕ

-- ---- the directory

-- `logs <N> <q>`: how many logs, and how many of them make a quorum
unfoldable pub logs_at : LineCursor → LineReading (ℕ × ℕ)
logs_at at = do
  fields ← two_fields_at (codes "logs") at
  count ← spelled fields.0.0 (party_count_of fields.0.0.text)
  quorum ← spelled fields.0.1 (quorum_of count fields.0.1.text)
  Ok ((count, quorum), fields.1)

-- `authorities <M>`: how many authorities
abbrev pub authorities_at : LineCursor → LineReading ℕ
authorities_at at = value_at (codes "authorities") party_count_of at

-- `key <112 hex>`: the key of the next party
abbrev pub key_in_line : LineCursor → LineReading LmsPublic
key_in_line at = value_at (codes "key") key_of_hex at

-- so many keys, a line each
unfoldable pub keys_at : ℕ → LineCursor → LineReading (List LmsPublic)
keys_at zero at = Ok ([], at)
keys_at (suc count) at = do
  key ← key_in_line at
  others ← keys_at count key.1
  Ok (key.0 ∷ others.0, others.1)

-- the logs and their keys of generation 0, and the authorities and theirs
unfoldable pub first_keys_at : LineCursor → LineReading Directory
first_keys_at at = do
  logs ← logs_at at
  log_keys ← keys_at logs.0.0 logs.1
  authorities ← authorities_at log_keys.1
  authority_keys ← keys_at authorities.0 authorities.1
  Ok (directory_with log_keys.0 authority_keys.0 logs.0.1, authority_keys.1)

-- ---- what the directory learns

-- the directory that learnt from the RollNote that hex spells
abbrev pub learnt_of_hex : Directory → List ℕ → Option Directory
learnt_of_hex keys word = option_and_then (learnt_from keys) (bytes_of_hex word)

-- `roll <hex of a RollNote>`: the directory that learnt it
abbrev pub roll_at : Directory → LineCursor → LineReading Directory
roll_at keys at = value_at (codes "roll") (learnt_of_hex keys) at

-- at most so many such lines, in order; the first line that is none is left
unfoldable pub rolls_at : ℕ → Directory → LineCursor → LineReading Directory
rolls_at zero keys at = Ok (keys, at)
rolls_at (suc more) keys at =
    if is_next (codes "roll") at then (roll_at keys at >>= λ learnt. rolls_at more learnt.0 learnt.1) else Ok (keys, at)

-- how many there may be
abbrev pub most_rolls : ℕ
most_rolls = 64

-- the directory of these keys, and of what it learns
unfoldable pub directory_at : LineCursor → LineReading Directory
directory_at at = do
  first ← first_keys_at at
  rolls_at most_rolls first.0 first.1

-- ---- the question

-- `name <name>`
abbrev pub name_at : LineCursor → LineReading (List ℕ)
name_at at = value_at (codes "name") name_of at

-- a line of this name with a number
abbrev pub number_at : List ℕ → LineCursor → LineReading ℕ
number_at name at = value_at name number_of at

-- `confirmation <hex>`
abbrev pub confirmation_at : LineCursor → LineReading (List ℕ)
confirmation_at at = value_at (codes "confirmation") bytes_of_hex at

-- the directory, the name, the epoch, the age and the confirmation, and no line more
unfoldable pub inquiry_at : LineCursor → Result Inquiry Refusal
inquiry_at at = do
  keys ← directory_at at
  name ← name_at keys.1
  epoch ← number_at (codes "now") name.1
  age ← number_at (codes "age") epoch.1
  confirmation ← confirmation_at age.1
  end ← no_row_at confirmation.1
  Ok (record { asked = record { keys = keys.0; name = name.0; epoch = epoch.0; age = age.0 }; confirmation = confirmation.0 })
