-- The challenges that a domain's key answers, as SHA-256 (FIPS 180-4) of strings. The first byte of each says of what kind it is.
use Rattle.std.specs.Prelude.{ℕ, List, ◌∷◌, ◌++◌}
use Rattle.std.specs.Int.{w64, to_be_bytes}
use Rattle.sha2.specs.Sha256.{sha256}

-- of an epoch, as 8 bytes, the highest first, and of a channel: the digest of the TLS key with which a connection is made
abbrev pub staple_string : ℕ → List ℕ → List ℕ
staple_string epoch channel = 0x20 ∷ to_be_bytes w64 epoch ++ channel

-- of a client's nonce and of what its connection exports
abbrev pub live_string : List ℕ → List ℕ → List ℕ
live_string nonce exporter = 0x21 ∷ nonce ++ exporter

-- the challenge of a staple
abbrev pub staple_challenge : ℕ → List ℕ → List ℕ
staple_challenge epoch channel = sha256 (staple_string epoch channel)

-- the challenge of a live answer
abbrev pub live_challenge : List ℕ → List ℕ → List ℕ
live_challenge nonce exporter = sha256 (live_string nonce exporter)
