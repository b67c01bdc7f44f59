-- What is signed leads back to the key.
use Rattle.std.proofs.Common.{◌≡◌, ◌∙◌, ap, sym, refl, arith, ℕ, ◌+◌, ◌-◌, ◌*◌, ◌^◌, ◌<◌, true, cond, ◌&&◌, ◌==◌, eq-eqb, List, ◌++◌, length, take, drop, Some, None}
use Rattle.std.specs.List.{flat_map, range_with_len}
use Rattle.std.specs.Int.{w32, to_be_bytes}
use Rattle.std.proofs.lemmas.List.{length-append, take_at, drop_at, drop-drop}
use Rattle.std.proofs.lemmas.Nat.{and_le_l, from_be_bytes-to_be_bytes_4}
use Rattle.sha2.specs.Sha256.{sha256}
use Rattle.sha2.proofs.Facts256.{length-sha256}
use Rattle.byteorder.specs.Endian.{little_bytes}
use Rattle.lm_ots.specs.declared.ots_type.OtsType.{OtsType}
use Rattle.lm_ots.specs.declared.ots_type.OtsType.TheVariants.{W1, W2, W4, W8}
use Rattle.lm_ots.specs.declared.secret.OtsSecret.{OtsSecret}
use Rattle.lm_ots.specs.OtsKind.{number_of, width_of, count_of, signature_len_of}
use Rattle.lm_ots.specs.Digits.{digit}
use Rattle.lm_ots.specs.Chain.{chain, d_pblc, domain_text}
use Rattle.lm_ots.specs.Candidate.{type_number, randomizer, element, message_hash, candidate_end, candidate_key, candidate, is_of_type}
use Rattle.lm_ots.specs.Signing.{secret_element, value_after, public_key_of, randomizer_word, randomizer_of, signed_element, signature_of}
use Rattle.lm_ots.proofs.ChainLemmas.{length-chain, chain-join}
use Rattle.lm_ots.proofs.PieceLemmas.{length-pieces, piece-at, flat_map-same}

-- C has 32 bytes
pub length-randomizer_of : (seed : List ℕ) (leaf : ℕ) → length (randomizer_of seed leaf) ≡ 32
unfolding randomizer_of
length-randomizer_of seed leaf = length-pieces (λ k. little_bytes 4 (randomizer_word seed leaf k)) 4 (λ k. refl) 0 8

-- an element has 32 bytes
pub length-value_after : (secret : OtsSecret) (n i : ℕ) → length (value_after secret n i) ≡ 32
length-value_after secret n i =
    length-chain secret.id secret.leaf i 0 n (secret_element secret i) (length-sha256 _)

-- the elements of a signature
abbrev elements_of : OtsSecret → List ℕ → List ℕ
elements_of secret q = flat_map (signed_element secret q) (range_with_len 0 (count_of secret.kind))

-- Q of a signature
abbrev hash_of : OtsSecret → List ℕ → List ℕ
hash_of secret message = message_hash secret.id secret.leaf (randomizer_of secret.seed secret.leaf) message

length-elements_of : (secret : OtsSecret) (q : List ℕ) → length (elements_of secret q) ≡ 32 * count_of secret.kind
length-elements_of secret q =
    length-pieces (signed_element secret q) 32 (λ i. length-value_after secret (digit secret.kind q i) i) 0 (count_of secret.kind)

-- a signature has the length of its type
pub length-signature_of : (secret : OtsSecret) (message : List ℕ) → length (signature_of secret message) ≡ signature_len_of secret.kind
unfolding signature_of
length-signature_of secret message =
    omega (
      arith,
      length-append (randomizer_of secret.seed secret.leaf) (elements_of secret (hash_of secret message)),
      length-randomizer_of secret.seed secret.leaf,
      length-elements_of secret (hash_of secret message),
    )

number_of-lt : (kind : OtsType) → number_of kind < 2 ^ 32
number_of-lt W1 = omega arith
number_of-lt W2 = omega arith
number_of-lt W4 = omega arith
number_of-lt W8 = omega arith

-- its first four bytes are the type
pub type_number-signature_of : (secret : OtsSecret) (message : List ℕ) → type_number (signature_of secret message) ≡ number_of secret.kind
unfolding signature_of
type_number-signature_of secret message = from_be_bytes-to_be_bytes_4 (number_of secret.kind) (number_of-lt secret.kind)

-- then comes C
pub randomizer-signature_of : (secret : OtsSecret) (message : List ℕ) → randomizer (signature_of secret message) ≡ randomizer_of secret.seed secret.leaf
unfolding signature_of
randomizer-signature_of secret message =
    take_at (randomizer_of secret.seed secret.leaf) (elements_of secret (hash_of secret message)) 32
    (length-randomizer_of secret.seed secret.leaf)

-- then come the elements
pub element-signature_of : (secret : OtsSecret) (message : List ℕ) (i : ℕ) → i < count_of secret.kind → element (signature_of secret message) i ≡ signed_element secret (hash_of secret message) i
unfolding signature_of
element-signature_of secret message i below =
    let c = randomizer_of secret.seed secret.leaf in
    let q = hash_of secret message in
    let elements = elements_of secret q in
    let behind : drop (36 + 32 * i) (to_be_bytes w32 (number_of secret.kind) ++ (c ++ elements)) ≡ drop (32 * i) elements =
    sym (drop-drop (32 * i) 36 (to_be_bytes w32 (number_of secret.kind) ++ (c ++ elements)))
    ∙ ap (drop (32 * i)) (drop_at c elements 32 (length-randomizer_of secret.seed secret.leaf)) in
    ap (take 32) behind
    ∙ piece-at (signed_element secret q) 32 (λ k. length-value_after secret (digit secret.kind q k) k) 0 (count_of secret.kind) i below
    ∙ ap (signed_element secret q) (omega arith)

-- each end that a signature leads to is the key's
candidate_end-signature_of : (secret : OtsSecret) (message : List ℕ) (i : ℕ) → i < count_of secret.kind → candidate_end secret.id secret.leaf secret.kind (hash_of secret message) (signature_of secret message) i ≡ value_after secret (2 ^ width_of secret.kind - 1) i
candidate_end-signature_of secret message i below =
    let q = hash_of secret message in
    let last = 2 ^ width_of secret.kind - 1 in
    ap (chain secret.id secret.leaf i (digit secret.kind q i) last) (element-signature_of secret message i below)
    ∙ chain-join secret.id secret.leaf i 0 (digit secret.kind q i) last (secret_element secret i) (omega arith) (and_le_l last _)

-- a signature leads to the public key of the key that made it
pub candidate_key-signature_of : (secret : OtsSecret) (message : List ℕ) → candidate_key secret.id secret.leaf secret.kind message (signature_of secret message) ≡ public_key_of secret
unfolding candidate_key public_key_of
candidate_key-signature_of secret message =
    let signature = signature_of secret message in
    let ends = candidate_end secret.id secret.leaf secret.kind (hash_of secret message) signature in
    ap (λ c. sha256 (domain_text secret.id secret.leaf d_pblc
    (flat_map (candidate_end secret.id secret.leaf secret.kind (message_hash secret.id secret.leaf c message) signature)
    (range_with_len 0 (count_of secret.kind))))) (randomizer-signature_of secret message)
    ∙ ap (λ l. sha256 (domain_text secret.id secret.leaf d_pblc l))
    (flat_map-same ends (value_after secret (2 ^ width_of secret.kind - 1)) 0 (count_of secret.kind)
    (λ i below. let number : 0 + i ≡ i = omega arith in
    ap ends number ∙ candidate_end-signature_of secret message i below
    ∙ ap (value_after secret (2 ^ width_of secret.kind - 1)) (sym number)))

-- and so it has a candidate, which is that key
pub candidate-signature_of : (secret : OtsSecret) (message : List ℕ) → candidate secret.id secret.leaf secret.kind message (signature_of secret message) ≡ Some (public_key_of secret)
candidate-signature_of secret message =
    let signature = signature_of secret message in
    let whole = eq-eqb _ _ (length-signature_of secret message) in
    let typed = eq-eqb _ _ (type_number-signature_of secret message) in
    let both : is_of_type secret.kind signature ≡ true =
    ap (λ b. b && (type_number signature == number_of secret.kind)) whole ∙ typed in
    ap (λ b. cond b (Some (candidate_key secret.id secret.leaf secret.kind message signature)) None) both
    ∙ ap Some (candidate_key-signature_of secret message)
