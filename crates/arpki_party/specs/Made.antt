-- What a party is made of.
use Rattle.std.specs.Prelude.{ℕ, List, if◌then◌else◌, Result, Ok, Err}
use Rattle.std.specs.Option.{ok_or}
use Rattle.ar_base.specs.Chaining.{◌>>=◌}
use Rattle.ar_base.specs.Gives.{with_error}
use Rattle.ar_founding.specs.FirstKeys.{key_for}
use Rattle.ar_lines.specs.Readings.{start_of_lines}
use Rattle.ar_lines.specs.Rows.{no_row_at}
use Rattle.ar_lines.specs.declared.refusal.Refusal.{Refusal}
use Rattle.ar_statement.specs.Claims.{party}
use Rattle.ar_statement.specs.declared.party.Role.{Role}
use Rattle.arpki_ask.specs.Inquiries.{directory_at}
use Rattle.arpki_ask.specs.Written.{key_line}
use Rattle.lms_tree.specs.Key.{public_of}
use Rattle.lms_tree.specs.KeyParts.{KeyParts}
use Rattle.party_keys.specs.Directory.{Directory}
use Rattle.arpki_party.specs.FirstKeys.{may_have, says_later}
use Rattle.arpki_party.specs.Marks.{mark_of}
use Rattle.arpki_party.specs.Secrets.{secret_said}
use Rattle.arpki_party.specs.declared.not_opened.NotOpened.{NotOpened}
use Rattle.arpki_party.specs.declared.not_opened.NotOpened.TheVariants as why
use Rattle.arpki_party.specs.declared.opening.Parts.{Parts}

-- the directory that a text says, all of whose lines are those of a directory
abbrev pub directory_said : List ℕ → Result Directory Refusal
directory_said text = do
  read ← directory_at (start_of_lines text)
  end ← no_row_at read.1
  Ok read.0

-- the same, where it says first keys alone; else why it is not taken
abbrev pub directory_taken : List ℕ → Result Directory NotOpened
directory_taken text = do
  keys ← with_error why.Line (directory_said text)
  if says_later keys then Err why.Rolled else Ok keys

-- the first key of a party, by the text of its secret's file
abbrev pub key_taken : Role → ℕ → List ℕ → Result KeyParts NotOpened
key_taken role number text = do
  said ← ok_or (secret_said text) why.NoSecret
  Ok (key_for said role number)

-- the line of that key in a directory, without its newline
abbrev pub key_line_taken : Role → ℕ → List ℕ → Result (List ℕ) NotOpened
key_line_taken role number text = do
  key ← key_taken role number text
  Ok (key_line (public_of key))

-- What a party is made of, by the texts of its directory and its secret's file: its number, the directory, the key, and the mark of a
-- journal that belongs to it, to this key and to the text of that directory. The directory has no other first key of it.
abbrev pub parts_taken : Role → ℕ → List ℕ → List ℕ → Result Parts NotOpened
parts_taken role number directory secret = do
  keys ← directory_taken directory
  key ← key_taken role number secret
  if may_have keys (party role number) (public_of key)
      then Ok (record { number = number; directory = keys; key = key; mark = mark_of (party role number) (public_of key) directory })
      else Err why.OtherKey

-- a file is not read, or memory is wanting
abbrev pub IsUnread : NotOpened → Type 0
IsUnread why.Memory = Unit {0}
IsUnread (why.Unread what error) = Unit {0}
IsUnread _ = ⊥
