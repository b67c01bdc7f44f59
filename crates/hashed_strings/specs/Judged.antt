-- The strings that a client hashes for a confirmation, by its bytes.
use Rattle.std.specs.Prelude.{ℕ, List, [], ◌∷◌, Option, Some, None}
use Rattle.std.specs.Result.{result_ok}
use Rattle.ar_bytes.specs.Reading.{whole}
use Rattle.ar_message.specs.Confirmation.{Confirmation, confirmation_at}
use Rattle.ar_names.specs.Names.{name_digest_of, name_string}
use Rattle.ar_safety.specs.Hashed.{body_strings}

-- of a confirmation: the string of its name, and those of its body
abbrev pub strings_on : Confirmation → List (List ℕ)
strings_on c = name_string c.about.name ∷ body_strings (name_digest_of c.about.name) c.steps c.body

-- of bytes that are one, or none
abbrev pub strings_read : Option Confirmation → List (List ℕ)
strings_read None = []
strings_read (Some c) = strings_on c

-- of these bytes
abbrev pub strings_in : List ℕ → List (List ℕ)
strings_in bytes = strings_read (result_ok (whole confirmation_at bytes))
