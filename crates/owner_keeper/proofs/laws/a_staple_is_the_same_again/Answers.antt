use Rattle.owner_keeper.proofs.Reasoned.{again}
use Rattle.owner_keeper.proofs.laws.a_staple_is_the_same_again.Goals as goal

pub returns : goal.returns
returns c = again
