use Rattle.std.proofs.Common.{◌⊎◌, subst}
use Rattle.desk_run.specs.Answers.{AnswersLine}
use Rattle.desk_run.specs.Opened.{LeavesRun}
use Rattle.kept_disk.specs.Moments.{LeavesOnly}
use Rattle.arpki_party.proofs.going_on.go_on.Goals as goal

pub returns-in-Ok-open_and_answer-clause-any_moment : goal.returns-in-Ok-open_and_answer-clause-any_moment
returns-in-Ok-open_and_answer-clause-any_moment g c =
    subst
    (λ new. LeavesOnly g.K.Disk.moment g.K.Disk.left_since c.args.disk c.in-Ok-open_and_answer.run'.0.journal.disk
    (λ left. g.K.Disk.may_leave c.args.disk left ⊎ LeavesRun g.D.Keeper.takes
    (AnswersLine g.D.LineParty.asked g.D.Keeper.says g.D.Keeper.takes g.D.Keeper.tells g.D.Keeper.refuses g.D.LineParty.sent_text g.D.LineParty.told_text g.D.LineParty.refused_text)
    g.D.LineParty.asked g.D.Keeper.says c.args.parts.mark (g.K.Disk.seen c.args.disk) new (g.S.Source.left c.args.source.now) (g.S.Source.left c.open_and_answer.new.source) left))
    c.in-Ok.ensures c.in-Ok-open_and_answer.ensures.any_moment
