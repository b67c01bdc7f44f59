-- The row of StatusNote: a status is counted by the log whose turn is the next epoch.
use Rattle.std.specs.Prelude.{ℕ, ◌+◌, List, [], ◌∷◌, Option, Some}
use Rattle.ar_statement.specs.Claims.{log_party}
use Rattle.vote_quorum.specs.declared.value.Value.{Value}
use Rattle.ar_council.specs.Values.{status_claim}
use Rattle.epoch_log.specs.Calls.{after_status_seen}
use Rattle.epoch_log.specs.State.{epoch_of}
use Rattle.log_sending.specs.Checks.{Check, in_epoch, in_turn}
use Rattle.ar_base.specs.FirstFailing.{first_error}
use Rattle.log_core.specs.Steps.{given}
use Rattle.log_core.specs.Replies.{closing_reply}
use Rattle.log_sending.specs.Signers.{signers}
use Rattle.party_keys.specs.Signers.{signed_by}
use Rattle.log_core.specs.State.{LogAnswer, CoreState, LogStep}

-- the log has signed; it is of this log's epoch, behind which is its turn
abbrev pub status_checks : CoreState → ℕ → ℕ → Option Value → List ℕ → List Check
status_checks s log epoch value signature =
    signers s.keys (signed_by (log_party log) (status_claim log epoch value) signature ∷ [])
    ∷ in_epoch s.log epoch
    ∷ in_turn s.log.council (epoch_of s.log + 1) s.log.me
    ∷ []

-- it is seen, and counted where it is the log's first; the closing rule follows
abbrev pub status_reply : CoreState → ℕ → Option Value → List ℕ → LogStep
status_reply s log value signature = closing_reply s s.log [] (after_status_seen s.log log value (Some signature))

unfoldable pub status_row : CoreState → ℕ → ℕ → Option Value → List ℕ → LogAnswer
status_row s log epoch value signature = given (status_checks s log epoch value signature) (status_reply s log value signature)

-- the refusal of a status, if there is one
unfoldable pub status_judged : CoreState → ℕ → ℕ → Option Value → List ℕ → Check
status_judged s log epoch value signature = first_error (status_checks s log epoch value signature)
