use Rattle.tree_proof.proofs.Accepted.{absence_accepted}
use Rattle.tree_proof.proofs.laws.made_absence_is_accepted.Goals as goal

pub returns : goal.returns
returns c = absence_accepted
