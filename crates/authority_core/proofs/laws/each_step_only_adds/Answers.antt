use Rattle.authority_core.proofs.Later.{rolling_step, row_step}
use Rattle.authority_core.proofs.laws.each_step_only_adds.Goals as goal

pub returns-clause-step : goal.returns-clause-step
returns-clause-step c s retired m said later sent is = (row_step s retired m said later sent is).grows

pub returns-clause-roll : goal.returns-clause-roll
returns-clause-roll c s next later sent is = (rolling_step s next later sent is).grows
