use Rattle.desk_run.proofs.Replayed.{opened_again}
use Rattle.desk_run.proofs.laws.what_a_crash_leaves_is_opened_again.Goals as goal

pub returns : goal.returns
returns g c =
    opened_again g.D.LineParty.asked g.D.Keeper.says g.D.Keeper.takes g.D.Keeper.tells g.D.Keeper.refuses g.D.LineParty.sent_text g.D.LineParty.told_text g.D.LineParty.refused_text
    g.met.D.Keeper.determined
