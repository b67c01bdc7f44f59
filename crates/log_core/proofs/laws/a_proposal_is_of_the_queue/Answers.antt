use Rattle.log_core.proofs.OwnProposal.{proposal-applies, proposal-fits, proposal-stands}
use Rattle.log_core.proofs.laws.a_proposal_is_of_the_queue.Goals as goal

pub returns-clause-applies : goal.returns-clause-applies
returns-clause-applies c = proposal-applies

pub returns-clause-in_order : goal.returns-clause-in_order
returns-clause-in_order c = proposal-stands

pub returns-clause-few : goal.returns-clause-few
returns-clause-few c s = (proposal-fits s).0

pub returns-clause-short : goal.returns-clause-short
returns-clause-short c s = (proposal-fits s).1
