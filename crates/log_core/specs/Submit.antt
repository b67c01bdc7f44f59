-- The row of Submit: a change is queued.
use Rattle.std.specs.Prelude.{Bool, ◌++◌, List, [], ◌∷◌, Result, Ok, if◌then◌else◌}
use Rattle.ar_base.specs.Gives.{with_error}
use Rattle.ar_message.specs.Filling.{nothing}
use Rattle.ar_cert.specs.Changes.{Change}
use Rattle.domain_table.specs.Applying.{answer_of, judge}
use Rattle.epoch_log.specs.Calls.{after_endorsed}
use Rattle.epoch_log.specs.State.{epoch_of, table_of}
use Rattle.log_sending.specs.Checks.{Check, has_place}
use Rattle.log_core.specs.Steps.{given}
use Rattle.ar_claims.specs.Lists.{endorsements_in}
use Rattle.log_sending.specs.Signers.{signers}
use Rattle.log_core.specs.State.{LogAnswer, CoreState, LogStep}
use Rattle.log_sending.specs.Queued.{is_queued}
use Rattle.log_core.specs.Replies.{core_after}
use Rattle.log_sending.specs.declared.refusal.LogRefusal.{LogRefusal}
use Rattle.log_sending.specs.declared.refusal.LogRefusal.TheVariants as refusals

-- there is a place for the change, or it is queued already
abbrev pub can_queue : List Change → Change → Check
can_queue queue change = if is_queued queue change then Ok tt else has_place queue

-- its endorsers have signed, the table accepts it in the epoch, as the only change, and there is a place for it
abbrev pub submit_checks : CoreState → Change → List Check
submit_checks s change =
    signers s.keys (endorsements_in change)
    ∷ with_error (refusals.BadChange 0) (answer_of (judge (table_of s.log) (epoch_of s.log) change))
    ∷ can_queue s.queue change
    ∷ []

-- the endorsements are seen, and it is the last of the queue
abbrev pub queueing : CoreState → Change → CoreState
queueing s change = core_after s (after_endorsed s.log change) (s.queue ++ change ∷ [])

-- where it is queued already, nothing changes
abbrev pub submit_reply : CoreState → Change → LogStep
submit_reply s change = record { unsigned = nothing; after = if is_queued s.queue change then s else queueing s change }

unfoldable pub submit_row : CoreState → Change → LogAnswer
submit_row s change = given (submit_checks s change) (submit_reply s change)

-- what a step is to do, where no check refuses: whether an equal change is queued, so that nothing is to be done
unfoldable pub submit_judged : CoreState → Change → Result Bool LogRefusal
submit_judged s change = given (submit_checks s change) (is_queued s.queue change)
