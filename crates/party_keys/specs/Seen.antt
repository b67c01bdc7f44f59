-- What was seen of parties: texts that were verified under the key of the party that signed them.
use Rattle.std.specs.Prelude.{◌⊎◌, ℕ, List, Contains}
use Rattle.ar_statement.specs.declared.party.Party.{Party}
use Rattle.ar_statement.specs.declared.text.SeenText.{SeenText}
use Rattle.ar_statement.specs.Claims.{Claim, text_of}
use Rattle.party_keys.specs.Directory.{Directory}
use Rattle.party_keys.specs.Signatures.{IsVerified}

-- a party's statement, as it is kept
abbrev pub seen_of : Party → Claim → SeenText
seen_of party claim = record { party = party; text = text_of claim }

-- the party's statement was seen: its text stands among those of the party
abbrev pub Saw : List SeenText → Party → Claim → Type 0
Saw seen signer claim = Contains seen (seen_of signer claim)

-- there is a signature of it that is valid under the keys
abbrev pub WasVerified : Directory → SeenText → Type 0
WasVerified keys t = (signature : List ℕ) × IsVerified keys t.party t.text signature

-- of what is seen later, each was seen before or is one that may be seen
abbrev pub SeesOnly : (SeenText → Type 0) → List SeenText → List SeenText → Type 0
SeesOnly May before later = (t : SeenText) → Contains later t → Contains before t ⊎ May t
