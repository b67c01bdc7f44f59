-- The row of the order to pass: the log states what it did in the epoch.
use Rattle.std.specs.Prelude.{◌+◌, List, [], ◌∷◌, if◌then◌else◌}
use Rattle.ar_message.specs.declared.address.Address.TheVariants.{One}
use Rattle.ar_message.specs.declared.message.Message.TheVariants.{StatusNote}
use Rattle.ar_message.specs.Filling.{zeros}
use Rattle.ar_statement.specs.Claims.{log_party}
use Rattle.epoch_log.specs.Calls.{after_state, is_turn, own_status_text, own_value}
use Rattle.epoch_log.specs.State.{epoch_of}
use Rattle.log_sending.specs.Checks.{Check, leaves_left, not_stated, turn_of}
use Rattle.ar_base.specs.FirstFailing.{first_error}
use Rattle.log_core.specs.Steps.{given}
use Rattle.log_core.specs.Replies.{closing_reply}
use Rattle.log_sending.specs.Sending.{DraftMessage, draft_with}
use Rattle.log_core.specs.State.{LogAnswer, CoreState, LogStep}

-- it has not stated in the epoch, and there is a leaf for its status
abbrev pub passing_checks : CoreState → List Check
passing_checks s = not_stated s.log ∷ leaves_left s.log.past.signed (own_status_text s.log ∷ []) ∷ []

-- the status, which goes to the log whose turn is the next epoch
abbrev pub status_draft : CoreState → DraftMessage
status_draft s =
    draft_with (One (log_party (turn_of s.log.council (epoch_of s.log + 1))))
    (StatusNote s.log.me (epoch_of s.log) (own_value s.log) (zeros s.signature_len)) s.signature_len 0 (own_status_text s.log)

-- the log that counts the statuses itself sends none
abbrev pub status_drafts : CoreState → List DraftMessage
status_drafts s = if is_turn s.log.council s.log.me (epoch_of s.log + 1) then [] else status_draft s ∷ []

-- it states what it did; where it counts statuses itself, its own is counted at once, and the closing rule follows
abbrev pub passing_reply : CoreState → LogStep
passing_reply s = closing_reply s s.log (status_drafts s) (after_state s.log)

unfoldable pub passing_row : CoreState → LogAnswer
passing_row s = given (passing_checks s) (passing_reply s)

-- the refusal of the order to pass, if there is one
unfoldable pub passing_judged : CoreState → Check
passing_judged s = first_error (passing_checks s)
