use Rattle.tree_proof.proofs.Bind.{presence}
use Rattle.tree_proof.proofs.laws.presence_binds.Goals as goal

pub returns : goal.returns
returns c = presence
