use Rattle.owner_keeper.proofs.Reasoned.{opens}
use Rattle.owner_keeper.proofs.laws.what_is_stapled_opens.Goals as goal

pub returns : goal.returns
returns c = opens
