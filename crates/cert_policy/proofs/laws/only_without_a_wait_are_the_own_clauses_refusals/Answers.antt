use Rattle.cert_policy.proofs.Meaning.{own_refusals}
use Rattle.cert_policy.proofs.laws.only_without_a_wait_are_the_own_clauses_refusals.Goals as goal

pub returns : goal.returns
returns c = own_refusals
