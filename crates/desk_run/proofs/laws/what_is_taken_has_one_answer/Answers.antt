use Rattle.desk_run.proofs.Taken.{one_answer, one_answer_ever}
use Rattle.desk_run.proofs.laws.what_is_taken_has_one_answer.Goals as goal

pub returns-clause-text : goal.returns-clause-text
returns-clause-text g c =
    one_answer g.D.LineParty.asked g.D.Keeper.says g.D.Keeper.takes g.D.Keeper.tells g.D.Keeper.refuses g.D.LineParty.sent_text g.D.LineParty.told_text g.D.LineParty.refused_text
    g.met.D.Keeper.determined

pub returns-clause-texts : goal.returns-clause-texts
returns-clause-texts g c =
    one_answer_ever g.D.LineParty.asked g.D.Keeper.says g.D.Keeper.takes g.D.Keeper.tells g.D.Keeper.refuses g.D.LineParty.sent_text g.D.LineParty.told_text g.D.LineParty.refused_text
    g.met.D.Keeper.determined
