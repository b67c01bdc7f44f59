use Rattle.std.proofs.Common.{[], ◌∷◌}
use Rattle.party_keys.specs.Seen.{seen_of}
use Rattle.party_keys.specs.Learning.{roll_claim}
use Rattle.epoch_log.specs.Calls.{endorsements_of, proposal_of}
use Rattle.epoch_log.proofs.Saw.{ballot-more, decision-more, proposal-more, report-more, seeing-more, skip-more, state-more}
use Rattle.epoch_log.proofs.laws.what_was_seen_stays_so.Goals as goal

pub returns-clause-change : goal.returns-clause-change
returns-clause-change c = λ s change. seeing-more s (endorsements_of change)

pub returns-clause-vote : goal.returns-clause-vote
returns-clause-vote c = λ s proposer value changes. seeing-more s (proposal_of s proposer value changes)

pub returns-clause-proposal : goal.returns-clause-proposal
returns-clause-proposal c = proposal-more

pub returns-clause-ballot : goal.returns-clause-ballot
returns-clause-ballot c = ballot-more

pub returns-clause-own : goal.returns-clause-own
returns-clause-own c = state-more

pub returns-clause-status : goal.returns-clause-status
returns-clause-status c = report-more

pub returns-clause-decision : goal.returns-clause-decision
returns-clause-decision c = decision-more

pub returns-clause-skip : goal.returns-clause-skip
returns-clause-skip c = skip-more

pub returns-clause-learn : goal.returns-clause-learn
returns-clause-learn c = λ s a. seeing-more s (seen_of a.party (roll_claim a) ∷ [])
