use Rattle.map_safety.proofs.Tables.{table-safe}
use Rattle.map_safety.proofs.laws.each_table_of_a_map_is_safe.Goals as goal

pub returns : goal.returns
returns c = table-safe
