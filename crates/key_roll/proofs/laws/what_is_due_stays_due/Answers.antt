use Rattle.key_roll.proofs.Later.{due_on, served_is_due}
use Rattle.key_roll.proofs.laws.what_is_due_stays_due.Goals as goal

pub returns-clause-served : goal.returns-clause-served
returns-clause-served c = served_is_due

pub returns-clause-stays : goal.returns-clause-stays
returns-clause-stays c = due_on
