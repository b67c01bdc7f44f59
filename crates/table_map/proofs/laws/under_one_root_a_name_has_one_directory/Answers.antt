use Rattle.table_map.proofs.Placing.{one-directory}
use Rattle.table_map.proofs.laws.under_one_root_a_name_has_one_directory.Goals as goal

pub returns : goal.returns
returns c = one-directory
