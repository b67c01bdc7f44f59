-- Whose signatures stand in the lists of messages: endorsements, votes and statuses, each with its statement.
use Rattle.std.specs.Prelude.{ℕ, List, map, Option}
use Rattle.ar_cert.specs.Certificate.{digest_of}
use Rattle.ar_cert.specs.Changes.{Change}
use Rattle.ar_council.specs.Values.{status_claim, vote_claim}
use Rattle.ar_message.specs.declared.lists.LogStatus.{LogStatus}
use Rattle.ar_message.specs.declared.lists.Vote.{Vote}
use Rattle.ar_statement.specs.Claims.{authority_party, endorse, log_party}
use Rattle.party_keys.specs.Signers.{Claimed, signed_by}
use Rattle.vote_quorum.specs.declared.value.Value.{Value}

-- the endorsements of a change
abbrev pub endorsements_in : Change → List Claimed
endorsements_in change =
    map (λ e. signed_by (authority_party e.authority) (endorse e.authority (digest_of change.cert)) e.signature) change.endorsements

-- votes of logs in an epoch for a value
abbrev pub claimed_votes : ℕ → Value → List Vote → List Claimed
claimed_votes epoch value votes = map (λ v. signed_by (log_party v.log) (vote_claim v.log epoch value) v.signature) votes

-- a log's status in a message, as its value
abbrev pub status_value : LogStatus → Option Value
status_value s = s.value

-- statuses of logs of an epoch
abbrev pub claimed_statuses : ℕ → List LogStatus → List Claimed
claimed_statuses epoch statuses = map (λ s. signed_by (log_party s.log) (status_claim s.log epoch (status_value s)) s.signature) statuses
