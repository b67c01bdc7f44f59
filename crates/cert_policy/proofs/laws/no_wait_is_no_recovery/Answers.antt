use Rattle.cert_policy.proofs.Meaning.{by_no_wait}
use Rattle.cert_policy.proofs.laws.no_wait_is_no_recovery.Goals as goal

pub returns : goal.returns
returns c = by_no_wait
