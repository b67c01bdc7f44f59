use Rattle.log_core.proofs.Later.{row-adds}
use Rattle.log_core.proofs.laws.each_row_only_adds.Goals as goal

pub returns : goal.returns
returns c = row-adds
