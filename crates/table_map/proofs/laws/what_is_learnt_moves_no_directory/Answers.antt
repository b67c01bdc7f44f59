use Rattle.table_map.proofs.Answering.{placed-learnt}
use Rattle.table_map.proofs.Learning.{digest-stays, recalled-all, recalled-digest, text-stays}
use Rattle.table_map.proofs.laws.what_is_learnt_moves_no_directory.Goals as goal

pub returns : goal.returns
returns c = record { text = text-stays; digest = digest-stays; placed = placed-learnt; recalled = recalled-all; recalled_digest = recalled-digest }
