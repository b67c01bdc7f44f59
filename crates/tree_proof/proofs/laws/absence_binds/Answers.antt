use Rattle.tree_proof.proofs.Bind.{absence}
use Rattle.tree_proof.proofs.laws.absence_binds.Goals as goal

pub returns : goal.returns
returns c = absence
