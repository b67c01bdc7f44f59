use Rattle.tree_proof.proofs.Bind.{equal_roots}
use Rattle.tree_proof.proofs.laws.equal_roots_bind.Goals as goal

pub returns : goal.returns
returns c = equal_roots
