use Rattle.epoch_log.proofs.Read.{table-decided, table-skipped}
use Rattle.epoch_log.proofs.laws.an_ending_makes_the_table.Goals as goal

pub returns : goal.returns
returns c = record { decided = table-decided; skipped = table-skipped }
