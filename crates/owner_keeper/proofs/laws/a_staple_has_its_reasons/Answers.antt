use Rattle.owner_keeper.proofs.Reasoned.{reasoned}
use Rattle.owner_keeper.proofs.laws.a_staple_has_its_reasons.Goals as goal

pub returns : goal.returns
returns c = reasoned
