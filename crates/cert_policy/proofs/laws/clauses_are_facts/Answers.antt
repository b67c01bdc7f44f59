use Rattle.cert_policy.proofs.Meaning.{follow_facts, registration_facts}
use Rattle.cert_policy.proofs.laws.clauses_are_facts.Goals as goal

pub returns-clause-follow : goal.returns-clause-follow
returns-clause-follow c = follow_facts

pub returns-clause-registration : goal.returns-clause-registration
returns-clause-registration c = registration_facts
