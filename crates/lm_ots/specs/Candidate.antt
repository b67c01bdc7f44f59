-- The public key that a signature leads to (RFC 8554, section 4.6, algorithm 4b).
use Rattle.std.specs.Prelude.{ℕ, ◌+◌, ◌-◌, ◌*◌, ◌^◌, ◌==◌, ◌&&◌, Bool, List, ◌++◌, length, take, drop, Option, Some, None, if◌then◌else◌}
use Rattle.std.specs.List.{flat_map, range_with_len}
use Rattle.std.specs.Int.{w32, from_be_bytes}
use Rattle.sha2.specs.Sha256.{sha256}
use Rattle.lm_ots.specs.declared.ots_type.OtsType.{OtsType}
use Rattle.lm_ots.specs.OtsKind.{number_of, width_of, count_of, signature_len_of}
use Rattle.lm_ots.specs.Digits.{digit}
use Rattle.lm_ots.specs.Chain.{d_mesg, d_pblc, domain_text, chain}

-- the parts of a signature: the number of its type, C, and element i
abbrev pub type_number : List ℕ → ℕ
type_number signature = from_be_bytes w32 (take 4 signature)

abbrev pub randomizer : List ℕ → List ℕ
randomizer signature = take 32 (drop 4 signature)

abbrev pub element : List ℕ → ℕ → List ℕ
element signature i = take 32 (drop (36 + 32 * i) signature)

-- Q: the hash of a message under C (section 4.5)
abbrev pub message_hash : List ℕ → ℕ → List ℕ → List ℕ → List ℕ
message_hash id leaf c message = sha256 (domain_text id leaf d_mesg (c ++ message))

-- K: the hash of the ends of all chains, of which end i is given by i (section 4.3)
abbrev pub key_of_ends : List ℕ → ℕ → OtsType → (ℕ → List ℕ) → List ℕ
key_of_ends id leaf kind end_of =
    sha256 (domain_text id leaf d_pblc (flat_map end_of (range_with_len 0 (count_of kind))))

-- end i that a signature of a message with hash Q leads to: element i after the steps of its chain
-- that are left from its digit on (section 4.6)
abbrev pub candidate_end : List ℕ → ℕ → OtsType → List ℕ → List ℕ → ℕ → List ℕ
candidate_end id leaf kind q signature i =
    chain id leaf i (digit kind q i) (2 ^ width_of kind - 1) (element signature i)

-- Kc: K of the ends that a signature of a message leads to
unfoldable pub candidate_key : List ℕ → ℕ → OtsType → List ℕ → List ℕ → List ℕ
candidate_key id leaf kind message signature =
    let q = message_hash id leaf (randomizer signature) message in
    key_of_ends id leaf kind (candidate_end id leaf kind q signature)

-- whether a string has the length and the type number of a signature of a type
abbrev pub is_of_type : OtsType → List ℕ → Bool
is_of_type kind signature =
    (length signature == signature_len_of kind) && (type_number signature == number_of kind)

-- the candidate key, where the signature is of the type
abbrev pub candidate : List ℕ → ℕ → OtsType → List ℕ → List ℕ → Option (List ℕ)
candidate id leaf kind message signature =
    if is_of_type kind signature then Some (candidate_key id leaf kind message signature) else None
