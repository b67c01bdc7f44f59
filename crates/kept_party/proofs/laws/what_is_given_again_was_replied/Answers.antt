use Rattle.kept_party.proofs.Kept.{replied_once}
use Rattle.kept_party.proofs.laws.what_is_given_again_was_replied.Goals as goal

pub returns : goal.returns
returns g c = replied_once g.P.Keeper.takes g.met.P.Keeper.determined
