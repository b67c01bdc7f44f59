-- What `serve` is asked, and the lines that it is read from.
use Rattle.std.specs.Prelude.{ℕ, zero, suc, Bool, true, false, if◌then◌else◌, List, [], ◌∷◌, codes, Result, Ok}
use Rattle.ar_base.specs.Chaining.{◌>>=◌}
use Rattle.ar_lines.specs.Forms.{sized_of_hex}
use Rattle.ar_lines.specs.Readings.{LineCursor, LineReading, spelled}
use Rattle.ar_lines.specs.Refusals.{refused}
use Rattle.ar_lines.specs.Rows.{field_at, value_at}
use Rattle.ar_lines.specs.declared.refusal.Reason.TheVariants.{Limit}
use Rattle.ar_lines.specs.declared.refusal.Refusal.{Refusal}
use Rattle.arpki_ask.specs.Inquiries.{name_at}

-- a service: the master secret of its key, the name that is served, the digest of its certificate, and the challenges that clients
-- put to it, in order
pub record Service : Type 0 where
  pub secret : List ℕ
  pub name : List ℕ
  pub certificate : List ℕ
  pub challenges : List (List ℕ)

-- `secret <64 hex>`, `certificate <64 hex>` or `challenge <64 hex>`
abbrev pub bytes_at : List ℕ → LineCursor → LineReading (List ℕ)
bytes_at name at = value_at name (sized_of_hex 32) at

-- no line is left of these
abbrev pub are_none : List (List ℕ) → Bool
are_none [] = true
are_none (line ∷ lines) = false

-- how many challenges there may be
abbrev pub most_challenges : ℕ
most_challenges = 64

-- one challenge too many: its line is refused as `limit`, where nothing else is wrong with it
unfoldable pub one_too_many_at : LineCursor → Result (List (List ℕ)) Refusal
one_too_many_at at = do
  field ← field_at (codes "challenge") at
  challenge ← spelled field.0 (sized_of_hex 32 field.0.text)
  refused field.0.line Limit

-- one challenge at least and so many at most, a line each, to the end of the input
unfoldable pub challenges_at : ℕ → LineCursor → Result (List (List ℕ)) Refusal
challenges_at zero at = one_too_many_at at
challenges_at (suc more) at = do
  challenge ← bytes_at (codes "challenge") at
  others ← (if are_none challenge.1.ahead then Ok [] else challenges_at more challenge.1)
  Ok (challenge.0 ∷ others)

-- the secret, the name, the certificate and the challenges
unfoldable pub service_at : LineCursor → Result Service Refusal
service_at at = do
  secret ← bytes_at (codes "secret") at
  name ← name_at secret.1
  certificate ← bytes_at (codes "certificate") name.1
  challenges ← challenges_at most_challenges certificate.1
  Ok (record { secret = secret.0; name = name.0; certificate = certificate.0; challenges = challenges })
