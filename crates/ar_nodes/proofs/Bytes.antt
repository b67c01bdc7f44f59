-- What enters the pool is bytes, and bytes stay as they are.
use Rattle.std.proofs.Common.{◌≡◌, ℕ, zero, suc, ◌<◌, ◌%◌, List, [], ◌∷◌, refl, ap, ◌∙◌, arith}
use Rattle.std.specs.Prelude.{map, slice_index}
use Rattle.ar_base.specs.Bytes.{AreBytes}
use Rattle.ar_nodes.specs.Pool.{in_bytes}

byte-stays : (n : ℕ) → n < 256 → n % 256 ≡ n
byte-stays n less = omega (arith, less)

is-byte : (n : ℕ) → n % 256 < 256
is-byte n = omega arith

pub bytes_stay : (xs : List ℕ) → AreBytes xs → in_bytes xs ≡ xs
unfolding in_bytes
bytes_stay [] are = refl
bytes_stay (x ∷ xs) are = ap (λ n. n ∷ map (λ n. n % 256) xs) (byte-stays x (are 0)) ∙ ap (λ ns. x ∷ ns) (bytes_stay xs (λ i. are (suc i)))

pub in_bytes-are : (xs : List ℕ) → AreBytes (in_bytes xs)
unfolding in_bytes
in_bytes-are [] i = omega arith
in_bytes-are (x ∷ xs) zero = is-byte x
in_bytes-are (x ∷ xs) (suc i) = in_bytes-are xs i

pub ruleset byte_laws = (bytes_stay)
