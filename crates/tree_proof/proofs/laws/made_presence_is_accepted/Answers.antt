use Rattle.tree_proof.proofs.Accepted.{presence_accepted}
use Rattle.tree_proof.proofs.laws.made_presence_is_accepted.Goals as goal

pub returns : goal.returns
returns c = presence_accepted
