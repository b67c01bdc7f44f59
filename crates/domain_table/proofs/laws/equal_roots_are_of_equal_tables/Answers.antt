use Rattle.domain_table.proofs.Trees.{equal_tables}
use Rattle.domain_table.proofs.laws.equal_roots_are_of_equal_tables.Goals as goal

pub returns : goal.returns
returns c = equal_tables
