-- What a log newly sees in a step, by the claims of what it is asked.
use Rattle.std.specs.Prelude.{◌≡◌, ◌⊎◌, ℕ, List, [], Contains}
use Rattle.ar_claims.specs.Claimed.{claimed_in_bytes}
use Rattle.ar_claims.specs.Verified.{IsVerifiedIn}
use Rattle.ar_statement.specs.Claims.{log_party}
use Rattle.ar_statement.specs.declared.text.SeenText.{SeenText}
use Rattle.key_roll.specs.Book.{RollBook, texts_of}
use Rattle.party_keys.specs.Directory.{Directory}
use Rattle.party_keys.specs.Signers.{Claimed}
use Rattle.log_core.specs.State.{Input, passes, proposes, rolls, takes}

-- the claims of what a log is asked: those of the bytes that it takes; an order makes none
abbrev pub claims_of : Input → List Claimed
claims_of (takes bytes) = claimed_in_bytes bytes
claims_of proposes = []
claims_of passes = []
claims_of (rolls key) = []

-- it is the log's own, and stands in its book
abbrev pub IsOwnSigned : ℕ → RollBook → SeenText → Type 0
IsOwnSigned me signed t = (t.party ≡ log_party me) × Contains (texts_of signed) t.text

-- of what is seen later, with this book, all was seen before, or is the log's own and stands in the book, or is one of the
-- claims and was verified under the keys
abbrev pub SeesClaims : Directory → ℕ → RollBook → List Claimed → List SeenText → List SeenText → Type 0
SeesClaims keys me signed claims before later =
    (t : SeenText) → Contains later t → Contains before t ⊎ (IsOwnSigned me signed t ⊎ IsVerifiedIn keys claims t)
