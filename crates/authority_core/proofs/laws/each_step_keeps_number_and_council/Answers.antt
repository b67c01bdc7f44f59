use Rattle.authority_core.proofs.Standing.{rolling-stays, row-stays}
use Rattle.authority_core.proofs.laws.each_step_keeps_number_and_council.Goals as goal

pub returns-clause-step : goal.returns-clause-step
returns-clause-step c = row-stays

pub returns-clause-roll : goal.returns-clause-roll
returns-clause-roll c = rolling-stays
