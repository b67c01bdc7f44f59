-- What a test of two digests that may be absent says.
use Rattle.std.proofs.Common.{◌≡◌, ℕ, List, true, Option, Some, None, refl, ap}
use Rattle.std.proofs.lemmas.Slice.Eq.{bytes_eq-Decides}
use Rattle.ar_council.specs.Values.{is_same_digest}

pub one_digest : (one other : Option (List ℕ)) → is_same_digest one other ≡ true → one ≡ other
one_digest None None e = refl
one_digest (Some one) (Some other) e = ap (λ d. Some d) ((bytes_eq-Decides one other).0 e)
one_digest None (Some other) e = absurd cc
one_digest (Some one) None e = absurd cc
