use Rattle.authority_core.proofs.Growing.{honest-fresh}
use Rattle.authority_core.proofs.laws.a_fresh_authority_is_honest.Goals as goal

pub returns : goal.returns
returns c = honest-fresh
