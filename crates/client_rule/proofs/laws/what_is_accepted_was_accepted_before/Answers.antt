use Rattle.client_rule.proofs.Aging.{accepted_earlier, absent_earlier}
use Rattle.client_rule.proofs.laws.what_is_accepted_was_accepted_before.Goals as goal

pub returns-clause-accepted : goal.returns-clause-accepted
returns-clause-accepted c = accepted_earlier

pub returns-clause-absent : goal.returns-clause-absent
returns-clause-absent c = absent_earlier
