use Rattle.map_safety.proofs.Fresh.{fresh-apart, fresh-met, fresh-table}
use Rattle.map_safety.proofs.laws.a_fresh_table_meets_the_premises.Goals as goal

pub returns : goal.returns
returns c = record { table = (fresh-table, fresh-apart); premises = fresh-met }
