use Rattle.vote_quorum.proofs.Beside.{one_beside}
use Rattle.vote_quorum.proofs.Counts.{beside_two}
use Rattle.vote_quorum.proofs.laws.one_shared_log_is_beside_any_two.Goals as goal

pub returns-clause-shared : goal.returns-clause-shared
returns-clause-shared c = one_beside

pub returns-clause-alone : goal.returns-clause-alone
returns-clause-alone c = beside_two
