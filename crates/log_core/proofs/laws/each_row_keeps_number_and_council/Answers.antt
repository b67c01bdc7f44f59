use Rattle.log_core.proofs.Standing.{row-stays}
use Rattle.log_core.proofs.laws.each_row_keeps_number_and_council.Goals as goal

pub returns : goal.returns
returns c = row-stays
