use Rattle.table_map.proofs.Bits.{key-agrees, table-agrees, table-below}
use Rattle.table_map.proofs.laws.a_name_has_one_table.Goals as goal

pub returns : goal.returns
returns c = record { range = table-below; same = table-agrees; key = key-agrees }
