use Rattle.cert_policy.proofs.Meaning.{update_facts}
use Rattle.cert_policy.proofs.laws.each_manner_has_its_facts.Goals as goal

pub returns : goal.returns
returns c = update_facts
