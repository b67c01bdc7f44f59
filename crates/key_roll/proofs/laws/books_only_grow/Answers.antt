use Rattle.key_roll.proofs.Later.{entry_later, later_on, roll_later, serves_on}
use Rattle.key_roll.proofs.laws.books_only_grow.Goals as goal

pub returns-clause-entry : goal.returns-clause-entry
returns-clause-entry c = entry_later

pub returns-clause-roll : goal.returns-clause-roll
returns-clause-roll c = roll_later

pub returns-clause-on : goal.returns-clause-on
returns-clause-on c = later_on

pub returns-clause-serves : goal.returns-clause-serves
returns-clause-serves c = serves_on
