-- The row of SkipNote: the log ends the epoch as skipped.
use Rattle.std.specs.Prelude.{ℕ, List, [], ◌∷◌, map, None}
use Rattle.ar_message.specs.declared.lists.LogStatus.{LogStatus}
use Rattle.epoch_log.specs.Calls.{SignedStatus, after_skip}
use Rattle.epoch_log.specs.State.{reports_of}
use Rattle.log_sending.specs.Checks.{Check, in_epoch, none_can_win}
use Rattle.ar_base.specs.FirstFailing.{first_error}
use Rattle.log_core.specs.Steps.{ended_epoch, given}
use Rattle.log_core.specs.Replies.{core_after}
use Rattle.log_sending.specs.Sending.{unsigned_of}
use Rattle.ar_claims.specs.Lists.{status_value, claimed_statuses}
use Rattle.log_sending.specs.Signers.{signers}
use Rattle.log_core.specs.State.{LogAnswer, CoreState, LogStep}

-- the statuses of a message, as the log keeps them
abbrev pub signed_statuses : List LogStatus → List SignedStatus
signed_statuses statuses = map (λ s. (s.log, status_value s, s.signature)) statuses

-- the statuses are signed; it is of the log's epoch; and by them no root can have a quorum
abbrev pub skip_checks : CoreState → ℕ → List LogStatus → List Check
skip_checks s epoch statuses =
    signers s.keys (claimed_statuses epoch statuses)
    ∷ in_epoch s.log epoch
    ∷ none_can_win s.log.council (reports_of (signed_statuses statuses))
    ∷ []

-- The epoch ended as skipped, unless it is the last. The table does not ripen, and the queue stays.
abbrev pub skip_reply : CoreState → List LogStatus → LogStep
skip_reply s statuses = record {
  unsigned = unsigned_of s.log.past.signed [] (ended_epoch s.log None);
  after = core_after s (after_skip s.log (signed_statuses statuses)) s.queue;
}

unfoldable pub skip_row : CoreState → ℕ → List LogStatus → LogAnswer
skip_row s epoch statuses = given (skip_checks s epoch statuses) (skip_reply s statuses)

-- what the checks of the row say together
unfoldable pub skip_judged : CoreState → ℕ → List LogStatus → Check
skip_judged s epoch statuses = first_error (skip_checks s epoch statuses)
