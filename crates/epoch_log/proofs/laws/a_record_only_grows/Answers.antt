use Rattle.epoch_log.proofs.Later.{ballot_adds, change_adds, confirm_adds, decision_adds, grows_on, learn_adds, proposal_adds, roll_adds, skip_adds, state_adds, status_adds, vote_adds}
use Rattle.epoch_log.proofs.laws.a_record_only_grows.Goals as goal

pub returns-clause-change : goal.returns-clause-change
returns-clause-change c = change_adds

pub returns-clause-vote : goal.returns-clause-vote
returns-clause-vote c = vote_adds

pub returns-clause-proposal : goal.returns-clause-proposal
returns-clause-proposal c = proposal_adds

pub returns-clause-ballot : goal.returns-clause-ballot
returns-clause-ballot c = ballot_adds

pub returns-clause-own : goal.returns-clause-own
returns-clause-own c = state_adds

pub returns-clause-status : goal.returns-clause-status
returns-clause-status c = status_adds

pub returns-clause-decision : goal.returns-clause-decision
returns-clause-decision c = decision_adds

pub returns-clause-skip : goal.returns-clause-skip
returns-clause-skip c = skip_adds

pub returns-clause-confirmation : goal.returns-clause-confirmation
returns-clause-confirmation c = confirm_adds

pub returns-clause-learn : goal.returns-clause-learn
returns-clause-learn c = learn_adds

pub returns-clause-roll : goal.returns-clause-roll
returns-clause-roll c = roll_adds

pub returns-clause-on : goal.returns-clause-on
returns-clause-on c = grows_on
