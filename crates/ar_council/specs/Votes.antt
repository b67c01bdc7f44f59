-- The votes that were seen.
use Rattle.std.specs.Prelude.{ℕ, List}
use Rattle.ar_statement.specs.declared.text.SeenText.{SeenText}
use Rattle.party_keys.specs.Seen.{Saw}
use Rattle.ar_statement.specs.Claims.{log_party}
use Rattle.vote_quorum.specs.Counted.{AtLeast}
use Rattle.vote_quorum.specs.declared.value.Value.{Value}
use Rattle.ar_council.specs.Council.{Council}
use Rattle.ar_council.specs.Values.{vote_claim}

-- votes of the epoch for the value were seen of a quorum of the logs
abbrev pub SawVotes : Council → List SeenText → ℕ → Value → Type 0
SawVotes council seen epoch value = AtLeast council.quorum council.logs (λ log. Saw seen (log_party log) (vote_claim log epoch value))
