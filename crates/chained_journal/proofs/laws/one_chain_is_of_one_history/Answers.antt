use Rattle.chained_journal.proofs.Chains.{one_history}
use Rattle.chained_journal.proofs.laws.one_chain_is_of_one_history.Goals as goal

pub returns : goal.returns
returns c = one_history
