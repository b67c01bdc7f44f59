-- The terms of a policy, and the numbers of authorities.
use Rattle.std.proofs.Common.{◌≡◌, ℕ, ◌<◌, leb, ltb, true, List, [], ◌∷◌, Option, Some, None}
use Rattle.std.specs.Prelude.{nat_lt, All, IfSome}
use Rattle.std.proofs.lemmas.Bool.{and_parts, leb-true, ltb-true}
use Rattle.std.proofs.lemmas.List.Elements.{All-cons, All-nil}
use Rattle.ar_bytes.specs.Ascending.{AreNumbers, ascends}
use Rattle.ar_bytes.proofs.Ascending.{tested-numbers}
use Rattle.std.specs.List.{list_all}
use Rattle.ar_cert.specs.Certificate.{IsWait}
use Rattle.cert_drafts.specs.Policies.{are_authorities, may_wait}

-- ---- numbers of authorities

-- each has two bytes
pub two_bytes : (numbers : List ℕ) → are_authorities numbers ≡ true → All (λ n. n < 65536) numbers
two_bytes numbers h = each numbers (and_parts (ascends numbers) (list_all (λ n. nat_lt n 65536) numbers) h).1
  where
    each : (numbers : List ℕ) → list_all (λ n. nat_lt n 65536) numbers ≡ true → All (λ n. n < 65536) numbers
    each [] h = All-nil (λ n. n < 65536)
    each (n ∷ more) h =
        let both = and_parts (ltb n 65536) (list_all (λ n. nat_lt n 65536) more) h in
        All-cons (λ n. n < 65536) n more (ltb-true n 65536 both.0) (each more both.1)

-- and they are those of a policy
pub policy_numbers : (numbers : List ℕ) → are_authorities numbers ≡ true → AreNumbers numbers
policy_numbers numbers h =
    tested-numbers numbers (and_parts (ascends numbers) (list_all (λ n. nat_lt n 65536) numbers) h).0 (two_bytes numbers h)

pub waits : (wait : Option ℕ) → may_wait wait ≡ true → IfSome wait IsWait
waits None h = tt
waits (Some n) h =
    let b = and_parts (leb 1 n) (leb n 10000) h in
    (leb-true 1 n b.0, leb-true n 10000 b.1)

pub ruleset terms = (two_bytes, policy_numbers, waits)
