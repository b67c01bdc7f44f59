use Rattle.key_roll.proofs.Later.{due_is_for, due_is_served, entered_is_served, rolled_is_served, served_on}
use Rattle.key_roll.proofs.laws.what_is_due_is_served.Goals as goal

pub returns-clause-entry : goal.returns-clause-entry
returns-clause-entry c = entered_is_served

pub returns-clause-roll : goal.returns-clause-roll
returns-clause-roll c = rolled_is_served

pub returns-clause-held : goal.returns-clause-held
returns-clause-held c = λ book text due e. (due_is_served book text due e, due_is_for book text due e)

pub returns-clause-later : goal.returns-clause-later
returns-clause-later c = served_on
