use Rattle.authority_core.proofs.Asked.{roll-row-asked, row-asked}
use Rattle.authority_core.proofs.laws.what_is_newly_asked_was_in_the_message.Goals as goal

pub returns-clause-step : goal.returns-clause-step
returns-clause-step c = row-asked

pub returns-clause-roll : goal.returns-clause-roll
returns-clause-roll c = roll-row-asked
