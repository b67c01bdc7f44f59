use Rattle.authority_core.proofs.Claiming.{roll-row-sees, row-sees}
use Rattle.authority_core.proofs.laws.what_is_newly_seen_was_claimed.Goals as goal

pub returns-clause-step : goal.returns-clause-step
returns-clause-step c = row-sees

pub returns-clause-roll : goal.returns-clause-roll
returns-clause-roll c = roll-row-sees
