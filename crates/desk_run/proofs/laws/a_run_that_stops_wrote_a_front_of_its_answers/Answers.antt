use Rattle.desk_run.proofs.Stopped.{front_of_answers}
use Rattle.desk_run.specs.Answers.{AnswersLine}
use Rattle.desk_run.proofs.laws.a_run_that_stops_wrote_a_front_of_its_answers.Goals as goal

pub returns : goal.returns
returns g c old new first last before after opening stop s =
    front_of_answers (AnswersLine g.D.LineParty.asked g.D.Keeper.says g.D.Keeper.takes g.D.Keeper.tells g.D.Keeper.refuses g.D.LineParty.sent_text g.D.LineParty.told_text g.D.LineParty.refused_text) g.W.Sink.wrote g.K.Disk.held
    old new first last before after opening stop s
