-- What is signed and sent is spelled in bytes.
use Rattle.std.proofs.Common.{ℕ, zero, suc, ◌+◌, ◌/◌, ◌^◌, List, [], ◌∷◌, ◌++◌, Bool, true, false, cond}
use Rattle.std.specs.Prelude.{map, flat_map, nat_le}
use Rattle.std.specs.List.{concat, range_with_len}
use Rattle.std.specs.Int.{Width, w32, byte_len, bytes_low_first, to_be_bytes}
use Rattle.sha2.specs.Sha256.{sha256}
use Rattle.ar_base.proofs.Digests.{bytes_by_recursion, sha256-IsDigest, AllBytes, byte_small, bytes-high_first, joined}
use Rattle.ar_bytes.specs.RoundTrip.{number_text}
use Rattle.lm_ots.specs.Chain.{chain, step_text}
use Rattle.lm_ots.specs.Candidate.{message_hash}
use Rattle.lm_ots.specs.Digits.{digit}
use Rattle.lm_ots.specs.OtsKind as ots_kind
use Rattle.lm_ots.specs.Signing as one_time
use Rattle.lm_ots.specs.declared.secret.OtsSecret.{OtsSecret}
use Rattle.lms_tree.specs.Key.{node_at, path_element, secret_of, sibling_of, signature_of, signed_parts}
use Rattle.lms_tree.specs.KeyParts.{KeyParts}
use Rattle.lms_tree.specs.LmsKind.{height_of}
use Rattle.lms_tree.specs.Signature.{SignatureParts, signature_text}
use Rattle.key_roll.specs.Due.{DueParts}
use Rattle.key_roll.specs.Ring.{signature_by}

low-first : (i k n : ℕ) → AllBytes (bytes_low_first i k n)
low-first i zero n = tt
low-first i (suc k) n = (byte_small i n, low-first (suc i) k n)

pub number-spelled : (w : Width) (n : ℕ) → AllBytes (number_text w n)
unfolding number_text
number-spelled w n = bytes-high_first (byte_len w) n

pub digest-spelled : (string : List ℕ) → AllBytes (sha256 string)
digest-spelled string = bytes_by_recursion (sha256 string) (sha256-IsDigest string).bytes

each-spelled : {A : Type 0} (f : A → List ℕ) → ((x : A) → AllBytes (f x)) → (xs : List A) → AllBytes (flat_map f xs)
each-spelled f each [] = tt
each-spelled f each (x ∷ xs) = joined (f x) (flat_map f xs) (each x) (each-spelled f each xs)

listed-spelled : (f : ℕ → List ℕ) → ((x : ℕ) → AllBytes (f x)) → (xs : List ℕ) → AllBytes (concat (map f xs))
listed-spelled f each [] = tt
listed-spelled f each (x ∷ xs) = joined (f x) (concat (map f xs)) (each x) (listed-spelled f each xs)

-- ---- signatures

chain-spelled : (id : List ℕ) (leaf i a b : ℕ) (x : List ℕ) → AllBytes x → AllBytes (chain id leaf i a b x)
unfolding chain
chain-spelled id leaf i a zero x is = is
chain-spelled id leaf i a (suc b) x is = by (nat_le (suc b) a)
  where
    by : (c : Bool) → AllBytes (cond c x (sha256 (step_text id leaf i b (chain id leaf i a b x))))
    by true = is
    by false = digest-spelled (step_text id leaf i b (chain id leaf i a b x))

value-spelled : (secret : OtsSecret) (n i : ℕ) → AllBytes (one_time.value_after secret n i)
value-spelled secret n i = chain-spelled secret.id secret.leaf i 0 n (one_time.secret_element secret i) (digest-spelled _)

random-spelled : (seed : List ℕ) (leaf : ℕ) → AllBytes (one_time.randomizer_of seed leaf)
unfolding one_time.randomizer_of
random-spelled seed leaf = each-spelled (λ k. bytes_low_first 0 4 (one_time.randomizer_word seed leaf k)) (λ k. low-first 0 4 (one_time.randomizer_word seed leaf k)) (range_with_len 0 8)

one_time-spelled : (secret : OtsSecret) (message : List ℕ) → AllBytes (one_time.signature_of secret message)
unfolding one_time.signature_of
one_time-spelled secret message =
    let c : List ℕ = one_time.randomizer_of secret.seed secret.leaf in
    let q : List ℕ = message_hash secret.id secret.leaf c message in
    let elements : List ℕ = flat_map (one_time.signed_element secret q) (range_with_len 0 (ots_kind.count_of secret.kind)) in
    joined (to_be_bytes w32 (ots_kind.number_of secret.kind)) (c ++ elements) (bytes-high_first 4 (ots_kind.number_of secret.kind))
    (joined c elements (random-spelled secret.seed secret.leaf)
    (each-spelled (one_time.signed_element secret q) (λ i. value-spelled secret (digit secret.kind q i) i) (range_with_len 0 (ots_kind.count_of secret.kind))))

node-spelled : (key : KeyParts) (height r : ℕ) → AllBytes (node_at key height r)
unfolding node_at
node-spelled key zero r = digest-spelled _
node-spelled key (suc height) r = digest-spelled _

lms-spelled : (key : KeyParts) (leaf : ℕ) (message : List ℕ) → AllBytes (signature_of key leaf message)
unfolding signature_of signature_text
lms-spelled key leaf message =
    let parts : SignatureParts = signed_parts key leaf message in
    let path : List ℕ = concat parts.path in
    joined (number_text w32 leaf) (parts.one_time ++ (number_text w32 parts.lms ++ path)) (number-spelled w32 leaf)
    (joined parts.one_time (number_text w32 parts.lms ++ path) (one_time-spelled (secret_of key leaf) message)
    (joined (number_text w32 parts.lms) path (number-spelled w32 parts.lms)
    (listed-spelled (path_element key leaf) (λ k. node-spelled key k (sibling_of ((2 ^ height_of key.lms + leaf) / 2 ^ k))) (range_with_len 0 (height_of key.lms)))))

pub signature-spelled : (key : KeyParts) (due : DueParts) → AllBytes (signature_by key due)
signature-spelled key due =
    joined (number_text w32 due.generation) (signature_of key due.leaf due.text) (number-spelled w32 due.generation) (lms-spelled key due.leaf due.text)
