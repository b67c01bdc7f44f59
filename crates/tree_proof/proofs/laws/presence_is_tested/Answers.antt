use Rattle.tree_proof.proofs.Tested.{is_on-Decides}
use Rattle.tree_proof.proofs.laws.presence_is_tested.Goals as goal

pub returns : goal.returns
returns c = is_on-Decides
