use Rattle.vote_quorum.proofs.Adding.{quorum-found, quorum-none}
use Rattle.vote_quorum.proofs.laws.a_quorum_is_of_distinct_logs.Goals as goal

pub returns-clause-found : goal.returns-clause-found
returns-clause-found c = quorum-found

pub returns-clause-none : goal.returns-clause-none
returns-clause-none c = quorum-none
