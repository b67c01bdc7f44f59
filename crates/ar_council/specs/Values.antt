-- The statements that logs and authorities make of the values that logs vote for.
use Rattle.std.specs.Prelude.{ℕ, List, Bool, true, false, Option, Some, None}
use Rattle.std.specs.Str.{bytes_eq}
use Rattle.ar_statement.specs.Claims.{Claim, confirmation_by, log_party, status, vote}
use Rattle.vote_quorum.specs.declared.value.Value.{Value}

-- a log's vote in an epoch for a value
abbrev pub vote_claim : ℕ → ℕ → Value → Claim
vote_claim log epoch value = vote log epoch value.base value.root

-- a log's status of an epoch
abbrev pub status_claim : ℕ → ℕ → Option Value → Claim
status_claim log epoch value = status log epoch value

-- a log's confirmation of what a name has
abbrev pub confirm_claim : ℕ → ℕ → List ℕ → Option (List ℕ) → List ℕ → Claim
confirm_claim log epoch name certificate root = confirmation_by (log_party log) epoch name certificate root

-- whether two digests, or none, are the same
abbrev pub is_same_digest : Option (List ℕ) → Option (List ℕ) → Bool
is_same_digest None None = true
is_same_digest (Some one) (Some other) = bytes_eq one other
is_same_digest None (Some other) = false
is_same_digest (Some one) None = false
