use Rattle.owner_keeper.proofs.Reasoned.{disallowed_then}
use Rattle.owner_keeper.proofs.laws.what_is_disallowed_is_not_allowed.Goals as goal

pub returns : goal.returns
returns c = disallowed_then
