-- The mark of a party's journal.
use Rattle.std.specs.Prelude.{List, ℕ, ◌∷◌, ◌++◌, codes, take}
use Rattle.ar_lines.specs.Parties.{letter_of}
use Rattle.ar_statement.specs.Claims.{party_text}
use Rattle.ar_statement.specs.declared.party.Party.{Party}
use Rattle.lms_tree.specs.PublicKey.{key_text}
use Rattle.lms_tree.specs.declared.public_key.LmsPublic.{LmsPublic}
use Rattle.sha2.specs.Sha256.{sha256}

-- whose a journal is: the party, its first key, and the bytes of its directory's file
abbrev pub belonging : Party → LmsPublic → List ℕ → List ℕ
belonging party key directory = party_text party ++ (key_text key ++ directory)

-- the mark of the journal of this party: `ARP`, the letter of its role, and the first 4 bytes of the digest of that
abbrev pub mark_of : Party → LmsPublic → List ℕ → List ℕ
mark_of party key directory = codes "ARP" ++ (letter_of party.role ∷ take 4 (sha256 (belonging party key directory)))
