use Rattle.table_map.proofs.Answering.{judged-means, judged-where, root-means, table-means}
use Rattle.table_map.proofs.laws.a_map_judges_by_the_tables_directory.Goals as goal

pub returns : goal.returns
returns c = record { judged = judged-means; only = judged-where; other_table = table-means; other_root = root-means }
