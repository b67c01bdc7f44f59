-- A digest under SHA-256 has 32 bytes, each below 256.
use Rattle.std.proofs.Common.{ℕ, zero, suc, ◌<◌, List, [], ◌∷◌, ◌++◌, arith}
use Rattle.std.specs.List.{AllByRecursion}
use Rattle.std.specs.Int.{w32, byte_at, to_be_bytes, bytes_high_first}
use Rattle.std.specs.Prelude.{slice_index}
use Rattle.sha2.specs.Sha256.{sha256, digest_bytes}
use Rattle.sha2.proofs.Facts256.{length-sha256}
use Rattle.ar_base.specs.Bytes.{AreBytes, IsDigest}
use Rattle.ar_base.proofs.Lists.{both-lists}

-- each of these numbers is a byte
abbrev pub AllBytes : List ℕ → Type 0
AllBytes bytes = AllByRecursion (λ byte. byte < 256) bytes

pub joined : (xs ys : List ℕ) → AllBytes xs → AllBytes ys → AllBytes (xs ++ ys)
joined xs ys hx hy = both-lists (λ byte. byte < 256) xs ys hx hy

pub byte_small : (i n : ℕ) → byte_at i n < 256
byte_small zero n = omega arith
byte_small (suc i) n = omega arith

pub bytes-high_first : (k n : ℕ) → AllBytes (bytes_high_first k n)
bytes-high_first zero n = tt
bytes-high_first (suc k) n = (byte_small k n, bytes-high_first k n)

bytes-digest_bytes : (h : List ℕ) (n : ℕ) → AllBytes (digest_bytes h n)
unfolding digest_bytes
bytes-digest_bytes h zero = tt
bytes-digest_bytes h (suc n) = joined (digest_bytes h n) (to_be_bytes w32 (slice_index h n)) (bytes-digest_bytes h n) (bytes-high_first 4 (slice_index h n))

pub at_each : (xs : List ℕ) → AllBytes xs → AreBytes xs
at_each [] h i = omega arith
at_each (x ∷ xs) h zero = h.0
at_each (x ∷ xs) h (suc i) = at_each xs h.1 i

-- the same by recursion over the list
pub bytes_by_recursion : (xs : List ℕ) → AreBytes xs → AllBytes xs
bytes_by_recursion [] h = tt
bytes_by_recursion (x ∷ xs) h = (h 0, bytes_by_recursion xs (λ i. h (suc i)))

pub sha256-IsDigest : (string : List ℕ) → IsDigest (sha256 string)
unfolding sha256
sha256-IsDigest string = record { len = length-sha256 string; bytes = at_each _ (bytes-digest_bytes _ 8) }
