-- How a directory is shown: the number of its table, its text, and the path to the root of the map.
use Rattle.std.specs.Prelude.{ℕ, ◌*◌, ◌/◌, List, [], ◌∷◌, ◌++◌, length, Result, Ok, Err}
use Rattle.std.specs.Int.{w8, w32}
use Rattle.std.specs.Option.{ok_or}
use Rattle.std.specs.Simd.{first_chunks}
use Rattle.ar_base.specs.Chaining.{◌>>=◌}
use Rattle.ar_base.specs.Gives.{with_error}
use Rattle.ar_bytes.specs.Reading.{Cursor, Reading, bytes_at, number_at, start_of}
use Rattle.lms_tree.specs.PublicKey.{key_of_text}
use Rattle.lms_tree.specs.declared.public_key.LmsPublic.{LmsPublic}
use Rattle.party_keys.specs.Directory.{Directory, directory_of}
use Rattle.table_map.specs.declared.fault.ShownFault.{ShownFault}
use Rattle.table_map.specs.declared.fault.ShownFault.TheVariants.{NoDirectory}

-- the number of the table, the size of a quorum, the texts of the keys of logs and of authorities, and the path
pub record Parts : Type 0 where
  pub table : ℕ
  pub quorum : ℕ
  pub logs : List ℕ
  pub authorities : List ℕ
  pub path : List ℕ

-- the fields of what is shown, as they stand: table u32, quorum u8, logs u8, authorities u8, 56 bytes for each of these, and
-- the path in all that is left
unfoldable pub parts_at : Cursor → Reading Parts
parts_at at = do
  table ← number_at w32 at
  quorum ← number_at w8 table.1
  logs ← number_at w8 quorum.1
  authorities ← number_at w8 logs.1
  log_texts ← bytes_at (56 * logs.0) authorities.1
  authority_texts ← bytes_at (56 * authorities.0) log_texts.1
  Ok (record { table = table.0; quorum = quorum.0; logs = log_texts.0; authorities = authority_texts.0; path = authority_texts.1.ahead }, authority_texts.1)

-- these keys, and behind them the keys of these texts; or none, where one is the text of none
unfoldable pub keys_behind : List LmsPublic → List (List ℕ) → Result (List LmsPublic) ShownFault
keys_behind front [] = Ok front
keys_behind front (text ∷ texts) = ok_or (key_of_text text) NoDirectory >>= λ key. keys_behind (front ++ key ∷ []) texts

-- the keys of texts of 56 bytes that lie one behind the other
abbrev pub keys_in : List ℕ → Result (List LmsPublic) ShownFault
keys_in bytes = keys_behind [] (first_chunks 56 (length bytes / 56) bytes)

-- the table, the directory and the path, where the parts have the keys of a directory
unfoldable pub shown_by : Parts → Result (ℕ × Directory × List ℕ) ShownFault
shown_by parts = do
  logs ← keys_in parts.logs
  authorities ← keys_in parts.authorities
  keys ← with_error (λ _. NoDirectory) (directory_of logs authorities parts.quorum)
  Ok (parts.table, keys, parts.path)

-- the same of bytes
unfoldable pub shown_in : List ℕ → Result (ℕ × Directory × List ℕ) ShownFault
shown_in bytes = with_error (λ _. NoDirectory) (parts_at (start_of bytes)) >>= λ parts. shown_by parts.0
