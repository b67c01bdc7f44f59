use Rattle.table_map.proofs.Bits.{next-bit}
use Rattle.table_map.proofs.laws.a_map_that_grows_parts_each_table.Goals as goal

pub returns : goal.returns
returns c = next-bit
