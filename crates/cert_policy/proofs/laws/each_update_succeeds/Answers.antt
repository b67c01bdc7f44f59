use Rattle.cert_policy.proofs.Meaning.{update_succeeds}
use Rattle.cert_policy.proofs.laws.each_update_succeeds.Goals as goal

pub returns : goal.returns
returns c = update_succeeds
