-- What `sig` is asked: a question, and the lines that it is read from.
use Rattle.std.specs.Prelude.{ℕ, List, Result, Ok}
use Rattle.lms_tree.specs.declared.public_key.LmsPublic.{LmsPublic}
use Rattle.ar_lines.specs.Forms.{bytes_of_hex, key_of_hex}
use Rattle.ar_base.specs.Chaining.{◌>>=◌}
use Rattle.ar_lines.specs.Readings.{LineCursor, no_line_at, word_at}
use Rattle.ar_lines.specs.declared.refusal.Refusal.{Refusal}

-- a key, a message and a signature
pub record Question : Type 0 where
  pub key : LmsPublic
  pub message : List ℕ
  pub signature : List ℕ

-- three lines, each one word of hex: a key, a message and a signature
unfoldable pub question_at : LineCursor → Result Question Refusal
question_at at = do
  key ← word_at key_of_hex at
  message ← word_at bytes_of_hex key.1
  signature ← word_at bytes_of_hex message.1
  end ← no_line_at signature.1
  Ok (record { key = key.0; message = message.0; signature = signature.0 })
