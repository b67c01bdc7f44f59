use Rattle.domain_table.proofs.Epochs.{came_by}
use Rattle.domain_table.proofs.laws.each_change_was_applied.Goals as goal

pub returns : goal.returns
returns c = came_by
