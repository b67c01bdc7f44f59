-- The row of Decision: the log ends the epoch as decided.
use Rattle.std.specs.Prelude.{ℕ, List, [], ◌∷◌, ◌++◌, flat_map, length, map, Some, if◌then◌else◌}
use Rattle.ar_cert.specs.Changes.{Change}
use Rattle.ar_message.specs.declared.lists.Vote.{Vote}
use Rattle.party_keys.specs.Signers.{Claimed}
use Rattle.vote_quorum.specs.declared.value.Value.{Value}
use Rattle.epoch_log.specs.Calls.{after_decide}
use Rattle.epoch_log.specs.Ending.{may_end}
use Rattle.epoch_log.specs.State.{LogState}
use Rattle.log_sending.specs.Checks.{Check, enough, in_epoch}
use Rattle.log_sending.specs.Leading.{leading_checks}
use Rattle.log_core.specs.Steps.{ended_epoch, given}
use Rattle.log_core.specs.Replies.{core_after}
use Rattle.log_sending.specs.Closings.{still_wanted}
use Rattle.log_sending.specs.Sending.{unsigned_of}
use Rattle.ar_claims.specs.Lists.{endorsements_in, claimed_votes}
use Rattle.log_sending.specs.Signers.{signers}
use Rattle.log_core.specs.State.{LogAnswer, CoreState, LogStep}

-- a decision of an epoch
pub record Decision : Type 0 where
  pub epoch : ℕ
  pub value : Value
  pub changes : List Change
  pub votes : List Vote

-- the votes, and the endorsers of each change in order
abbrev pub decision_signers : Decision → List Claimed
decision_signers d = claimed_votes d.epoch d.value d.votes ++ flat_map endorsements_in d.changes

-- The signers; it is of the log's epoch, the changes lead to the value, and the votes are a quorum.
abbrev pub decision_checks : CoreState → Decision → List Check
decision_checks s d =
    signers s.keys (decision_signers d)
    ∷ in_epoch s.log d.epoch
    ∷ leading_checks s.log d.value d.changes ++ enough s.log.council (length d.votes) ∷ []

-- the votes as the log keeps them
abbrev pub plain_votes : List Vote → List (ℕ × List ℕ)
plain_votes votes = map (λ v. (v.log, v.signature)) votes

-- the log behind it
abbrev pub decision_state : CoreState → Decision → LogState
decision_state s d = after_decide s.log d.value d.changes (plain_votes d.votes)

-- the epoch ended as decided, unless it is the last that a statement can name
abbrev pub decision_reply : CoreState → Decision → LogStep
decision_reply s d = record {
  unsigned = unsigned_of (decision_state s d).past.signed [] (ended_epoch s.log (Some d.value.root));
  after = core_after s (decision_state s d) (if may_end s.log.past then still_wanted (decision_state s d) s.queue else s.queue);
}

unfoldable pub decision_row : CoreState → Decision → LogAnswer
decision_row s d = given (decision_checks s d) (decision_reply s d)
