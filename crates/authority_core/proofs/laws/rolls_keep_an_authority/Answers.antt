use Rattle.authority_core.proofs.Growing.{honest-learn, honest-roll}
use Rattle.authority_core.proofs.laws.rolls_keep_an_authority.Goals as goal

pub returns : goal.returns
returns c = record { learn = honest-learn; roll = honest-roll }
