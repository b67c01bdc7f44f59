-- The row of the order to propose, and what a log proposes.
use Rattle.std.specs.Prelude.{List, [], ◌∷◌, ◌++◌, Result, unwrap_or}
use Rattle.ar_cert.specs.Changes.{Change}
use Rattle.ar_message.specs.declared.address.Address.TheVariants.{Logs}
use Rattle.ar_message.specs.declared.message.Message.TheVariants.{Propose}
use Rattle.ar_message.specs.Filling.{zeros}
use Rattle.ar_statement.specs.Claims.{text_of}
use Rattle.vote_quorum.specs.declared.value.Value.{Value}
use Rattle.domain_table.specs.Applying.{apply, ripen}
use Rattle.domain_table.specs.Tree.{root_of}
use Rattle.epoch_log.specs.Calls.{after_propose, proposal_texts, propose_claim}
use Rattle.epoch_log.specs.State.{epoch_of, table_of}
use Rattle.log_sending.specs.Checks.{Check, in_turn, leaves_left, not_stated, not_voted}
use Rattle.ar_base.specs.FirstFailing.{first_error}
use Rattle.log_core.specs.Steps.{given}
use Rattle.log_core.specs.Replies.{closing_reply}
use Rattle.log_sending.specs.Sending.{DraftMessage, draft_with}
use Rattle.log_core.specs.State.{LogAnswer, CoreState, LogStep}
use Rattle.log_sending.specs.Walk.{most_change_bytes, most_changes, walk}
use Rattle.log_sending.specs.declared.refusal.LogRefusal.{LogRefusal}

-- the changes that the log proposes
abbrev pub proposal : CoreState → List Change
proposal s = walk (epoch_of s.log) (ripen (table_of s.log) (epoch_of s.log)) most_changes most_change_bytes s.queue

-- what it proposes to go to, from the root of its table as it is before it ripens: the root of the table behind the
-- changes, which has ripened also where there is no change
abbrev pub proposed_value : CoreState → Value
proposed_value s = record {
  base = root_of (table_of s.log);
  root = root_of (unwrap_or (apply (table_of s.log) (epoch_of s.log) (proposal s)) (table_of s.log));
}

-- it is the log's turn, and it has not voted and stated nothing in the epoch
abbrev pub turn_checks : CoreState → List Check
turn_checks s = in_turn s.log.council (epoch_of s.log) s.log.me ∷ not_voted s.log ∷ not_stated s.log ∷ []

-- the same, and there are leaves for the proposal and its own vote
abbrev pub proposing_checks : CoreState → List Check
proposing_checks s = turn_checks s ++ leaves_left s.log.past.signed (proposal_texts s.log (proposed_value s)) ∷ []

-- the proposal, which goes to all logs
abbrev pub proposal_draft : CoreState → Value → List Change → DraftMessage
proposal_draft s value changes =
    draft_with Logs (Propose s.log.me (epoch_of s.log) value.base value.root changes (zeros s.signature_len))
    s.signature_len 0 (text_of (propose_claim s.log value))

-- the log proposes what it walked over, and counts its own vote at once; the closing rule follows
abbrev pub proposing_reply : CoreState → LogStep
proposing_reply s =
    closing_reply s s.log (proposal_draft s (proposed_value s) (proposal s) ∷ []) (after_propose s.log (proposed_value s) (proposal s))

unfoldable pub proposing_row : CoreState → LogAnswer
proposing_row s = given (proposing_checks s) (proposing_reply s)

-- whether it is the log's turn, as far as its vote and its status are known
unfoldable pub turn_judged : CoreState → Check
turn_judged s = first_error (turn_checks s)

-- what the log proposes where it may, or the refusal of the order
unfoldable pub proposing_judged : CoreState → Result (Value × List Change) LogRefusal
proposing_judged s = given (proposing_checks s) (proposed_value s, proposal s)
