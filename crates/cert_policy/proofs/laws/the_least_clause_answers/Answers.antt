use Rattle.cert_policy.proofs.Least.{one_fails, least_fails}
use Rattle.cert_policy.proofs.laws.the_least_clause_answers.Goals as goal

pub returns-clause-fails : goal.returns-clause-fails
returns-clause-fails c = one_fails

pub returns-clause-least : goal.returns-clause-least
returns-clause-least c = least_fails
