use Rattle.owner_keeper.proofs.Reasoned.{leaves_left}
use Rattle.owner_keeper.proofs.laws.a_staple_leaves_what_is_kept_back.Goals as goal

pub returns : goal.returns
returns c = leaves_left
