-- What of claims was verified under the keys of a directory.
use Rattle.std.specs.Prelude.{ℕ, ◌⊎◌, List, Contains}
use Rattle.ar_statement.specs.declared.text.SeenText.{SeenText}
use Rattle.party_keys.specs.Directory.{Directory}
use Rattle.party_keys.specs.Signatures.{IsVerified}
use Rattle.party_keys.specs.Signers.{Claimed}

-- one of the claims is of this party and this text, with a signature that is valid under the keys
abbrev pub IsVerifiedIn : Directory → List Claimed → SeenText → Type 0
IsVerifiedIn keys claims t =
    (signature : List ℕ) × Contains claims (record { party = t.party; text = t.text; signature = signature })
    × IsVerified keys t.party t.text signature

-- of what is seen later, each was seen before or was verified so
abbrev pub SeesClaimed : Directory → List Claimed → List SeenText → List SeenText → Type 0
SeesClaimed keys claims before later = (t : SeenText) → Contains later t → Contains before t ⊎ IsVerifiedIn keys claims t
