use Rattle.monitor.proofs.Named.{honest-authority}
use Rattle.monitor.proofs.laws.an_honest_authority_is_not_named.Goals as goal

pub returns : goal.returns
returns c = honest-authority
