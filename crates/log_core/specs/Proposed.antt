-- The row of Propose: the log votes for another log's proposal.
use Rattle.std.specs.Prelude.{ℕ, List, [], ◌∷◌, ◌++◌, flat_map, Result}
use Rattle.ar_cert.specs.Changes.{Change}
use Rattle.ar_message.specs.declared.address.Address.TheVariants.{One}
use Rattle.ar_message.specs.declared.message.Message.TheVariants.{Ballot}
use Rattle.ar_message.specs.Filling.{zeros}
use Rattle.ar_statement.specs.Claims.{log_party, propose}
use Rattle.party_keys.specs.Signers.{Claimed, signed_by}
use Rattle.vote_quorum.specs.declared.value.Value.{Value}
use Rattle.epoch_log.specs.Calls.{after_vote, own_vote_text}
use Rattle.epoch_log.specs.State.{LogState, epoch_of}
use Rattle.log_sending.specs.Checks.{Check, leaves_left, in_epoch, in_turn, not_stated, not_voted, turn_of}
use Rattle.log_sending.specs.Leading.{leading_checks}
use Rattle.log_core.specs.Steps.{given}
use Rattle.log_core.specs.Replies.{open_reply}
use Rattle.log_sending.specs.Sending.{Composed, DraftMessage, draft_with, none_composed, with_draft}
use Rattle.ar_claims.specs.Lists.{endorsements_in}
use Rattle.log_sending.specs.Signers.{signers}
use Rattle.log_core.specs.State.{LogAnswer, CoreState, LogStep}
use Rattle.log_sending.specs.declared.refusal.LogRefusal.{LogRefusal}

-- a proposal of a log in an epoch
pub record Proposal : Type 0 where
  pub log : ℕ
  pub epoch : ℕ
  pub value : Value
  pub changes : List Change
  pub signature : List ℕ

-- the proposer, and the endorsers of each change in order
abbrev pub proposal_signers : Proposal → List Claimed
proposal_signers p =
    signed_by (log_party p.log) (propose p.log p.epoch p.value.base p.value.root) p.signature ∷ flat_map endorsements_in p.changes

-- Whether the log may vote for a value: it has not voted and not stated, the changes lead to the value, and there is a leaf for
-- the vote.
abbrev pub voting_checks : LogState → Value → List Change → List Check
voting_checks s value changes =
    not_voted s ∷ not_stated s ∷ leading_checks s value changes ++ leaves_left s.past.signed (own_vote_text s value ∷ []) ∷ []

-- The signers; it is of the log's epoch, by the log whose turn it is; and the log may vote for it.
abbrev pub proposed_checks : CoreState → Proposal → List Check
proposed_checks s p =
    signers s.keys (proposal_signers p)
    ∷ in_epoch s.log p.epoch
    ∷ in_turn s.log.council (epoch_of s.log) p.log
    ∷ voting_checks s.log p.value p.changes

-- the ballot goes to the log whose turn it is
abbrev pub ballot_draft : CoreState → Value → DraftMessage
ballot_draft s value =
    draft_with (One (log_party (turn_of s.log.council (epoch_of s.log))))
    (Ballot s.log.me (epoch_of s.log) value.base value.root (zeros s.signature_len)) s.signature_len 0 (own_vote_text s.log value)

-- the log votes for it
abbrev pub proposed_reply : CoreState → Proposal → LogStep
proposed_reply s p = open_reply s (after_vote s.log p.log p.value p.changes) (ballot_draft s p.value ∷ [])

unfoldable pub proposed_row : CoreState → Proposal → LogAnswer
proposed_row s p = given (proposed_checks s p) (proposed_reply s p)

-- what a step is to send, where no check refuses
unfoldable pub proposed_judged : CoreState → Proposal → Result Composed LogRefusal
proposed_judged s p = given (proposed_checks s p) (with_draft none_composed (ballot_draft s p.value))
