use Rattle.client_rule.proofs.Meanings.{accepted, absence, refused}
use Rattle.client_rule.proofs.laws.a_judgement_means_its_facts.Goals as goal

pub returns-clause-accepted : goal.returns-clause-accepted
returns-clause-accepted c = accepted

pub returns-clause-absent : goal.returns-clause-absent
returns-clause-absent c = absence

pub returns-clause-refused : goal.returns-clause-refused
returns-clause-refused c = refused
