use Rattle.kept_party.proofs.Kept.{done_kept}
use Rattle.kept_party.proofs.laws.what_was_done_is_kept.Goals as goal

pub returns : goal.returns
returns g c = done_kept g.P.Keeper.takes g.met.P.Keeper.determined
