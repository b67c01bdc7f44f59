-- The votes that an authority verified last, under the keys that it knows.
use Rattle.std.specs.Prelude.{◌≡◌, ℕ, ◌==◌, Bool, true, false, ◌&&◌, List, [], ◌∷◌, map, Ok}
use Rattle.std.specs.Str.{bytes_eq}
use Rattle.ar_council.specs.Values.{vote_claim}
use Rattle.ar_message.specs.declared.lists.Vote.{Vote}
use Rattle.ar_message.specs.declared.message.Confirming.{Confirming}
use Rattle.ar_statement.specs.Claims.{log_party}
use Rattle.party_keys.specs.Directory.{Directory}
use Rattle.party_keys.specs.Signers.{Claimed, all_signed, signed_by}
use Rattle.vote_quorum.specs.declared.value.Value.{Value}
use Rattle.authority_core.specs.declared.verifying.VerifiedVotes.{VerifiedVotes}

-- these logs are said to have voted for the value in the epoch
abbrev pub kept_claims : ℕ → Value → List Vote → List Claimed
kept_claims epoch value votes = map (λ v. signed_by (log_party v.log) (vote_claim v.log epoch value) v.signature) votes

-- The signature of each of the votes is accepted under these keys, so that it need not be verified again.
abbrev pub AreVerified : Directory → VerifiedVotes → Type 0
AreVerified keys v = all_signed keys (kept_claims v.epoch v.value v.votes.items) ≡ Ok tt

-- ---- the same votes

abbrev pub is_same_vote : Vote → Vote → Bool
is_same_vote v w = (v.log == w.log) && bytes_eq v.signature w.signature

abbrev pub are_same_votes : List Vote → List Vote → Bool
are_same_votes [] [] = true
are_same_votes [] (w ∷ ws) = false
are_same_votes (v ∷ vs) [] = false
are_same_votes (v ∷ vs) (w ∷ ws) = is_same_vote v w && are_same_votes vs ws

-- these are the votes of a confirmation, for the same value in the same epoch
abbrev pub are_of : VerifiedVotes → Confirming → Bool
are_of v part =
    (v.epoch == part.epoch)
    && (bytes_eq v.value.base part.base && (bytes_eq v.value.root part.root && are_same_votes v.votes.items part.votes))
