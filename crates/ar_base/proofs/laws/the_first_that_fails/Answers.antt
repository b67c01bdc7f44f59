use Rattle.ar_base.proofs.Failing.{all_hold, fails_at_place}
use Rattle.ar_base.proofs.laws.the_first_that_fails.Goals as goal

pub returns-clause-none : goal.returns-clause-none
returns-clause-none g c = all_hold

pub returns-clause-fault : goal.returns-clause-fault
returns-clause-fault g c = fails_at_place
