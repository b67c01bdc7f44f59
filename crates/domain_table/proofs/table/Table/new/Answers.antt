use Rattle.domain_table.proofs.Taking.{kept_none}
use Rattle.domain_table.proofs.table.Table.new.Goals as goal

pub invariant_of-result : goal.invariant_of-result
invariant_of-result c = kept_none c.new.result.entries c.new-2.result c.new.ensures.empty c.new-2.ensures
