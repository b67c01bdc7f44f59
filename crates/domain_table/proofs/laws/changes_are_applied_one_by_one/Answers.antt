use Rattle.domain_table.proofs.Once.{one_by_one}
use Rattle.domain_table.proofs.laws.changes_are_applied_one_by_one.Goals as goal

pub returns : goal.returns
returns c = one_by_one
