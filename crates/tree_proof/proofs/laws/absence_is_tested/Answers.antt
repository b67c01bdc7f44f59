use Rattle.tree_proof.proofs.Tested.{is_off-Decides}
use Rattle.tree_proof.proofs.laws.absence_is_tested.Goals as goal

pub returns : goal.returns
returns c = is_off-Decides
