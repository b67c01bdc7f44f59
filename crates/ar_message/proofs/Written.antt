-- How long counted bytes are.
use Rattle.std.proofs.Common.{◌≡◌, ℕ, ◌+◌, List, ◌++◌, length, arith, length-append}
use Rattle.std.specs.Int.{w16}
use Rattle.ar_bytes.specs.RoundTrip.{number_text, counted_text}
use Rattle.ar_bytes.proofs.Passing.{length-number_text}

pub length-counted : (bytes : List ℕ) → length (counted_text bytes) ≡ 2 + length bytes
length-counted bytes = omega (arith, length-append (number_text w16 (length bytes)) bytes, length-number_text w16 (length bytes))
