use Rattle.cert_policy.proofs.AsSet.{same_distinct, same_among}
use Rattle.cert_policy.proofs.laws.endorsers_count_as_a_set.Goals as goal

pub returns-clause-distinct : goal.returns-clause-distinct
returns-clause-distinct c = same_distinct

pub returns-clause-among : goal.returns-clause-among
returns-clause-among c = same_among
