-- Votes that were seen stay seen.
use Rattle.std.proofs.Common.{ℕ, List}
use Rattle.ar_statement.specs.declared.text.SeenText.{SeenText}
use Rattle.ar_statement.specs.Claims.{log_party, text_of}
use Rattle.party_keys.specs.Seen.{Saw}
use Rattle.vote_quorum.proofs.Counts.{at_least_wider}
use Rattle.vote_quorum.specs.declared.value.Value.{Value}
use Rattle.ar_council.specs.Council.{Council}
use Rattle.ar_council.specs.Values.{vote_claim}
use Rattle.ar_council.specs.Votes.{SawVotes}
use Rattle.ar_council.proofs.Lists.{Within}

pub votes-more : (council : Council) (seen later : List SeenText) → Within seen later → (epoch : ℕ) (value : Value) → SawVotes council seen epoch value → SawVotes council later epoch value
votes-more council seen later within epoch value saw =
    at_least_wider council.quorum council.logs (λ log. Saw seen (log_party log) (vote_claim log epoch value)) (λ log. Saw later (log_party log) (vote_claim log epoch value))
    (λ log below one. within (record { party = log_party log; text = text_of (vote_claim log epoch value) }) one) saw
