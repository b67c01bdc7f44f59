-- The secret of each party, from one master secret.
use Rattle.std.specs.Prelude.{ℕ, List, ◌∷◌, ◌++◌}
use Rattle.std.specs.Int.{w8, w16}
use Rattle.sha2.specs.Sha256.{sha256}
use Rattle.ar_bytes.specs.RoundTrip.{number_text}
use Rattle.ar_statement.specs.declared.party.Role.{Role}
use Rattle.ar_statement.specs.Claims.{role_number}

-- SHA-256 of the byte 0x53, the master secret, the role's number and the party's number
unfoldable pub seed_of : List ℕ → Role → ℕ → List ℕ
seed_of master role number =
    sha256 (0x53 ∷ (master ++ (number_text w8 (role_number role) ++ number_text w16 number)))
