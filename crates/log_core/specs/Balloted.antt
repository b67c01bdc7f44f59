-- The row of Ballot: a ballot is counted by the log whose turn it is.
use Rattle.std.specs.Prelude.{ℕ, List, [], ◌∷◌}
use Rattle.ar_statement.specs.Claims.{log_party}
use Rattle.vote_quorum.specs.declared.value.Value.{Value}
use Rattle.ar_council.specs.Values.{vote_claim}
use Rattle.epoch_log.specs.Calls.{after_ballot}
use Rattle.epoch_log.specs.State.{epoch_of}
use Rattle.log_sending.specs.Checks.{Check, in_epoch, in_turn}
use Rattle.ar_base.specs.FirstFailing.{first_error}
use Rattle.log_core.specs.Steps.{given}
use Rattle.log_core.specs.Replies.{closing_reply}
use Rattle.log_sending.specs.Signers.{signers}
use Rattle.party_keys.specs.Signers.{signed_by}
use Rattle.log_core.specs.State.{LogAnswer, CoreState, LogStep}

-- the log has signed; it is of this log's epoch, which is its turn
abbrev pub ballot_checks : CoreState → ℕ → ℕ → Value → List ℕ → List Check
ballot_checks s log epoch value signature =
    signers s.keys (signed_by (log_party log) (vote_claim log epoch value) signature ∷ [])
    ∷ in_epoch s.log epoch
    ∷ in_turn s.log.council (epoch_of s.log) s.log.me
    ∷ []

-- it is seen and counted, and the closing rule follows
abbrev pub ballot_reply : CoreState → ℕ → Value → List ℕ → LogStep
ballot_reply s log value signature = closing_reply s s.log [] (after_ballot s.log log value signature)

unfoldable pub ballot_row : CoreState → ℕ → ℕ → Value → List ℕ → LogAnswer
ballot_row s log epoch value signature = given (ballot_checks s log epoch value signature) (ballot_reply s log value signature)

-- the refusal of a ballot, if there is one
unfoldable pub ballot_judged : CoreState → ℕ → ℕ → Value → List ℕ → Check
ballot_judged s log epoch value signature = first_error (ballot_checks s log epoch value signature)
