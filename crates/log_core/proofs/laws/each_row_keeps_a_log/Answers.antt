use Rattle.log_core.proofs.KeptEndings.{kept-row}
use Rattle.log_core.proofs.laws.each_row_keeps_a_log.Goals as goal

pub returns : goal.returns
returns c = kept-row
