use Rattle.desk_run.proofs.Replayed.{replays_lines}
use Rattle.desk_run.proofs.laws.what_a_run_took_replays.Goals as goal

pub returns : goal.returns
returns g c =
    replays_lines g.D.LineParty.asked g.D.Keeper.says g.D.Keeper.takes g.D.Keeper.tells g.D.Keeper.refuses g.D.LineParty.sent_text g.D.LineParty.told_text g.D.LineParty.refused_text
