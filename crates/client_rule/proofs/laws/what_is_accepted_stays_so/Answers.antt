use Rattle.client_rule.proofs.Learning.{still_accepted, still_absent}
use Rattle.client_rule.proofs.laws.what_is_accepted_stays_so.Goals as goal

pub returns-clause-accepted : goal.returns-clause-accepted
returns-clause-accepted c = still_accepted

pub returns-clause-absent : goal.returns-clause-absent
returns-clause-absent c = still_absent
