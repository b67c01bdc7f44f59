-- The strings that the integrity tree hashes, and their digests under SHA-256 (FIPS 180-4, section
-- 6.2). The first byte of each says what it is of, so strings of two kinds are never equal.
use Rattle.std.specs.Prelude.{ℕ, List, [], ◌∷◌, ◌++◌}
use Rattle.std.specs.Int.{w64, to_be_bytes}
use Rattle.sha2.specs.Sha256.{sha256}

-- of no entry at all
abbrev pub empty_string : List ℕ
empty_string = 0x00 ∷ []

-- of one entry
abbrev pub entry_string : List ℕ → List ℕ → List ℕ
entry_string key value = 0x01 ∷ key ++ value

-- of two halves, by their digests: the left one holds the keys whose bit is 0
abbrev pub node_string : List ℕ → List ℕ → List ℕ
node_string left right = 0x02 ∷ left ++ right

-- of a domain's newest certificate: its serial as 8 bytes, the highest first, and its digest
abbrev pub value_string : ℕ → List ℕ → List ℕ
value_string serial certificate = 0x03 ∷ to_be_bytes w64 serial ++ certificate

-- of a pending certificate: the epoch since which it waits as 8 bytes, the highest first, and its digest
abbrev pub pending_string : ℕ → List ℕ → List ℕ
pending_string since certificate = 0x04 ∷ to_be_bytes w64 since ++ certificate

-- of the name that a pending certificate is for
abbrev pub pending_key_string : List ℕ → List ℕ
pending_key_string name = 0x12 ∷ name

-- the digest of a set with no entry
abbrev pub empty_digest : List ℕ
empty_digest = sha256 empty_string

-- the digest of a set of one entry
abbrev pub entry_digest : List ℕ → List ℕ → List ℕ
entry_digest key value = sha256 (entry_string key value)

-- the digest of a set of more entries, by those of its halves
abbrev pub node_digest : List ℕ → List ℕ → List ℕ
node_digest left right = sha256 (node_string left right)

-- the value of a domain, by its newest certificate
abbrev pub value_digest : ℕ → List ℕ → List ℕ
value_digest serial certificate = sha256 (value_string serial certificate)

-- the value of a pending certificate
abbrev pub pending_digest : ℕ → List ℕ → List ℕ
pending_digest since certificate = sha256 (pending_string since certificate)

-- the key that the pending certificate of a name has in the tree
abbrev pub pending_key : List ℕ → List ℕ
pending_key name = sha256 (pending_key_string name)
