use Rattle.std.proofs.Common.{rules, ◌≡◌, ap, subst, List, ℕ, ◌++◌, Err, true}
use Rattle.std.proofs.lemmas.Result.{err_from_is_err_and}
use Rattle.ar_io.specs.Wrote.{AppendedFront}
use Rattle.desk_run.specs.Answers.{AnswersLine}
use Rattle.desk_run.specs.Reading.{Comes}
use Rattle.desk_run.proofs.Crashed.{in_turn}
use Rattle.desk_run.proofs.Turned.{not_answered, not_begun, not_written}
use Rattle.desk_run.proofs.serving.turn.Goals as goal

pub returns-in_err-next-clause-stopped : goal.returns-in_err-next-clause-stopped
returns-in_err-next-clause-stopped g c =
    let p = err_from_is_err_and c.from_residual.result c.from_residual.ensures.1 in
    let t = c.in_err-next.ensures.taken in
    rw (p.1, p.2) (not_begun (AnswersLine g.D.LineParty.asked g.D.Keeper.says g.D.Keeper.takes g.D.Keeper.tells g.D.Keeper.refuses g.D.LineParty.sent_text g.D.LineParty.told_text g.D.LineParty.refused_text) g.W.Sink.wrote g.K.Disk.held
    c.args.kept.now (g.S.Source.left c.args.source.now) (g.S.Source.left c.next.new.source) c.args.sink.now c.args.lines.now.ahead t.0 c.args.number c.in_err-next.field-0.0
    (λ is. c.in_err-next.ensures.only.0 (ap Err is)) t.1 t.2)

pub returns-in_err-text-clause-stopped : goal.returns-in_err-text-clause-stopped
returns-in_err-text-clause-stopped g c =
    let p = err_from_is_err_and c.from_residual-in_err-text.result c.from_residual-in_err-text.ensures.1 in
    let t = c.in_ok-next.ensures.comes in
    let more : c.in_ok-next.field-0 ≡ true = search rules in
    let came = subst (λ b. Comes b (c.args.lines.now.ahead ++ t.0) c.next.new.self (g.S.Source.left c.next.new.source)) more t.2 in
    let line = came.0 in
    rw (p.1, p.2) (not_answered (AnswersLine g.D.LineParty.asked g.D.Keeper.says g.D.Keeper.takes g.D.Keeper.tells g.D.Keeper.refuses g.D.LineParty.sent_text g.D.LineParty.told_text g.D.LineParty.refused_text) g.W.Sink.wrote g.K.Disk.held
    c.args.kept.now c.answer.new.kept (g.S.Source.left c.args.source.now) (g.S.Source.left c.next.new.source) c.args.sink.now c.args.lines.now.ahead t.0 line c.next.new.self.ahead c.args.number c.in_err-text.field-0.0
    (λ is. c.in_err-text.ensures.only.0 (ap Err is)) t.1 came.1.0 (c.in_err-text.ensures.not_done line came.1.1))

pub returns-in_err-text-clause-any_moment : goal.returns-in_err-text-clause-any_moment
returns-in_err-text-clause-any_moment g c =
    let t = c.in_ok-next.ensures.comes in
    let more : c.in_ok-next.field-0 ≡ true = search rules in
    let came = subst (λ b. Comes b (c.args.lines.now.ahead ++ t.0) c.next.new.self (g.S.Source.left c.next.new.source)) more t.2 in
    let line = came.0 in
    in_turn g.D.LineParty.asked g.D.Keeper.says g.D.Keeper.takes (AnswersLine g.D.LineParty.asked g.D.Keeper.says g.D.Keeper.takes g.D.Keeper.tells g.D.Keeper.refuses g.D.LineParty.sent_text g.D.LineParty.told_text g.D.LineParty.refused_text) g.K.Disk.moment g.K.Disk.left_since g.K.Disk.may_leave
    c.args.kept.now.party (g.S.Source.left c.args.source.now) (g.S.Source.left c.next.new.source) c.args.lines.now.ahead t.0 line c.next.new.self.ahead
    c.args.kept.now.journal.mark c.args.kept.now.journal.texts c.args.kept.now.journal.disk c.answer.new.kept.journal.disk t.1 came.1.0
    (c.answer.ensures.any_moment line came.1.1)

pub returns-in_err-write-clause-stopped : goal.returns-in_err-write-clause-stopped
returns-in_err-write-clause-stopped g c =
    let p = err_from_is_err_and c.from_residual-in_err-write.result c.from_residual-in_err-write.ensures.1 in
    let t = c.in_ok-next.ensures.comes in
    let more : c.in_ok-next.field-0 ≡ true = search rules in
    let came = subst (λ b. Comes b (c.args.lines.now.ahead ++ t.0) c.next.new.self (g.S.Source.left c.next.new.source)) more t.2 in
    let line = came.0 in
    let sent = subst (λ (w : List ℕ). AppendedFront g.W.Sink.wrote c.args.sink.now c.write.new.sink w) c.deref.ensures.value c.in_err-write.ensures.front in
    rw (p.1, p.2) (not_written (AnswersLine g.D.LineParty.asked g.D.Keeper.says g.D.Keeper.takes g.D.Keeper.tells g.D.Keeper.refuses g.D.LineParty.sent_text g.D.LineParty.told_text g.D.LineParty.refused_text) g.W.Sink.wrote g.K.Disk.held
    c.args.kept.now c.answer.new.kept (g.S.Source.left c.args.source.now) (g.S.Source.left c.next.new.source) c.args.sink.now c.write.new.sink c.args.lines.now.ahead t.0 line c.next.new.self.ahead c.in_ok-text.text.items c.args.number c.in_err-write.field-0.0
    c.in_err-write.ensures.only t.1 came.1.0 (c.in_ok-text.ensures.did line came.1.1) c.in_ok-text.ensures.goes_on c.answer.ensures.mark sent)

pub returns-in_err-write-clause-any_moment : goal.returns-in_err-write-clause-any_moment
returns-in_err-write-clause-any_moment g c =
    let t = c.in_ok-next.ensures.comes in
    let more : c.in_ok-next.field-0 ≡ true = search rules in
    let came = subst (λ b. Comes b (c.args.lines.now.ahead ++ t.0) c.next.new.self (g.S.Source.left c.next.new.source)) more t.2 in
    let line = came.0 in
    in_turn g.D.LineParty.asked g.D.Keeper.says g.D.Keeper.takes (AnswersLine g.D.LineParty.asked g.D.Keeper.says g.D.Keeper.takes g.D.Keeper.tells g.D.Keeper.refuses g.D.LineParty.sent_text g.D.LineParty.told_text g.D.LineParty.refused_text) g.K.Disk.moment g.K.Disk.left_since g.K.Disk.may_leave
    c.args.kept.now.party (g.S.Source.left c.args.source.now) (g.S.Source.left c.next.new.source) c.args.lines.now.ahead t.0 line c.next.new.self.ahead
    c.args.kept.now.journal.mark c.args.kept.now.journal.texts c.args.kept.now.journal.disk c.answer.new.kept.journal.disk t.1 came.1.0
    (c.answer.ensures.any_moment line came.1.1)

pub returns-clause-any_moment : goal.returns-clause-any_moment
returns-clause-any_moment g c =
    let t = c.in_ok-next.ensures.comes in
    let more : c.in_ok-next.field-0 ≡ true = search rules in
    let came = subst (λ b. Comes b (c.args.lines.now.ahead ++ t.0) c.next.new.self (g.S.Source.left c.next.new.source)) more t.2 in
    let line = came.0 in
    in_turn g.D.LineParty.asked g.D.Keeper.says g.D.Keeper.takes (AnswersLine g.D.LineParty.asked g.D.Keeper.says g.D.Keeper.takes g.D.Keeper.tells g.D.Keeper.refuses g.D.LineParty.sent_text g.D.LineParty.told_text g.D.LineParty.refused_text) g.K.Disk.moment g.K.Disk.left_since g.K.Disk.may_leave
    c.args.kept.now.party (g.S.Source.left c.args.source.now) (g.S.Source.left c.next.new.source) c.args.lines.now.ahead t.0 line c.next.new.self.ahead
    c.args.kept.now.journal.mark c.args.kept.now.journal.texts c.args.kept.now.journal.disk c.answer.new.kept.journal.disk t.1 came.1.0
    (c.answer.ensures.any_moment line came.1.1)
