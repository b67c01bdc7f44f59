-- One-time private keys, their public keys and their signatures (RFC 8554, sections 4.2, 4.3 and 4.5
-- and appendix A).
use Rattle.std.specs.Prelude.{ℕ, ◌+◌, ◌-◌, ◌^◌, List, ◌∷◌, ◌++◌}
use Rattle.std.specs.List.{flat_map, range_with_len}
use Rattle.std.specs.Int.{w32, to_be_bytes}
use Rattle.sha2.specs.Sha256.{sha256}
use Rattle.byteorder.specs.Endian.{little_bytes}
use Rattle.rand_chacha.specs.ChaCha.{word_at, key_of}
use Rattle.lm_ots.specs.declared.secret.OtsSecret.{OtsSecret}
use Rattle.lm_ots.specs.OtsKind.{number_of, width_of, count_of}
use Rattle.lm_ots.specs.Digits.{digit}
use Rattle.lm_ots.specs.Chain.{step_text, chain}
use Rattle.lm_ots.specs.Candidate.{key_of_ends, message_hash}

-- x[i]: the beginning of chain i, which the seed gives (appendix A)
abbrev pub secret_element : OtsSecret → ℕ → List ℕ
secret_element secret i = sha256 (step_text secret.id secret.leaf i 0xff secret.seed)

-- the value of chain i after its first n steps
abbrev pub value_after : OtsSecret → ℕ → ℕ → List ℕ
value_after secret n i = chain secret.id secret.leaf i 0 n (secret_element secret i)

-- K: the public key, of the ends of all chains (section 4.3, algorithm 1)
unfoldable pub public_key_of : OtsSecret → List ℕ
public_key_of secret =
    key_of_ends secret.id secret.leaf secret.kind (value_after secret (2 ^ width_of secret.kind - 1))

-- the private key of the leaf that lies so many further on in the same tree
abbrev pub secret_behind : OtsSecret → ℕ → OtsSecret
secret_behind secret k = record secret { leaf = secret.leaf + k }

-- word k of ChaCha20 with the key H(0x43 || SEED), in the stream of the leaf
unfoldable pub randomizer_word : List ℕ → ℕ → ℕ → ℕ
randomizer_word seed leaf k = word_at 10 (key_of (sha256 (0x43 ∷ seed))) leaf k

-- C: the first eight words, low byte first
unfoldable pub randomizer_of : List ℕ → ℕ → List ℕ
randomizer_of seed leaf =
    flat_map (λ k. little_bytes 4 (randomizer_word seed leaf k)) (range_with_len 0 8)

-- element i of a signature of a message with hash Q: x[i] after as many steps as digit i says
abbrev pub signed_element : OtsSecret → List ℕ → ℕ → List ℕ
signed_element secret q i = value_after secret (digit secret.kind q i) i

-- Sign: u32 type || C || the elements (section 4.5, algorithm 3)
unfoldable pub signature_of : OtsSecret → List ℕ → List ℕ
signature_of secret message =
    let c = randomizer_of secret.seed secret.leaf in
    let q = message_hash secret.id secret.leaf c message in
    to_be_bytes w32 (number_of secret.kind)
    ++ (c ++ flat_map (signed_element secret q) (range_with_len 0 (count_of secret.kind)))
