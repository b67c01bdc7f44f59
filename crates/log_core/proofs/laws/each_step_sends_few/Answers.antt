use Rattle.log_core.proofs.Few.{rolling-few, row-few}
use Rattle.log_core.proofs.laws.each_step_sends_few.Goals as goal

pub returns-clause-step : goal.returns-clause-step
returns-clause-step c = row-few

pub returns-clause-roll : goal.returns-clause-roll
returns-clause-roll c = rolling-few
