use Rattle.ar_cert.proofs.Accepted.{plain_facts, objection_facts}
use Rattle.ar_cert.proofs.laws.a_change_is_taken_where_its_facts_hold.Goals as goal

pub returns-clause-plain : goal.returns-clause-plain
returns-clause-plain c = plain_facts

pub returns-clause-objections : goal.returns-clause-objections
returns-clause-objections c = objection_facts
