-- What a log newly sees in a step.
use Rattle.std.specs.Prelude.{◌≡◌, ◌⊎◌, ℕ, List, Contains}
use Rattle.ar_statement.specs.declared.text.SeenText.{SeenText}
use Rattle.party_keys.specs.Directory.{Directory}
use Rattle.ar_statement.specs.Claims.{log_party}
use Rattle.party_keys.specs.Signatures.{IsVerified}

-- it is the log's own, or there is a signature of it that is valid under the keys
abbrev pub IsOwnOrVerified : Directory → ℕ → SeenText → Type 0
IsOwnOrVerified keys me t = (t.party ≡ log_party me) ⊎ ((signature : List ℕ) × IsVerified keys t.party t.text signature)

-- of what is seen later, all was seen before, or is the log's own or was verified
abbrev pub SeesVerified : Directory → ℕ → List SeenText → List SeenText → Type 0
SeesVerified keys me before later = (t : SeenText) → Contains later t → Contains before t ⊎ IsOwnOrVerified keys me t
