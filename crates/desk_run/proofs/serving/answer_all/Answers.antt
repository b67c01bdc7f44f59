use Rattle.std.proofs.Common.{rules, ◌≡◌, inl, inr, refl, ap, ◌∙◌, subst, List, ℕ, true, false, Err}
use Rattle.std.proofs.lemmas.Result.{err_from_is_err_and}
use Rattle.ar_io.specs.Wrote.{Appended, AppendedFront}
use Rattle.desk_run.specs.Answers.{AnswersLine, opening_text, sent_again}
use Rattle.desk_run.specs.declared.stop.Stop.TheVariants.{Count, Memory, Sink}
use Rattle.desk_run.proofs.Crashed.{no_turn}
use Rattle.desk_run.proofs.Served.{all_of_it, begun, crashed, ended, front_of_it, lines_overran, none_of_it, pieces_overran, stopped, stopped_here, turned, unstarted}
use Rattle.desk_run.proofs.Turned.{sink_not_memory}
use Rattle.desk_run.proofs.serving.answer_all.Goals as goal

pub returns-in_err-first-clause-stopped : goal.returns-in_err-first-clause-stopped
returns-in_err-first-clause-stopped g c =
    let p = err_from_is_err_and c.from_residual.result c.from_residual.ensures.1 in
    rw (p.1, p.2) (unstarted (AnswersLine g.D.LineParty.asked g.D.Keeper.says g.D.Keeper.takes g.D.Keeper.tells g.D.Keeper.refuses g.D.LineParty.sent_text g.D.LineParty.told_text g.D.LineParty.refused_text) g.W.Sink.wrote g.K.Disk.held g.K.Disk.may_leave c.args.kept.now (g.S.Source.left c.args.source.now) c.args.sink.now
    (opening_text (sent_again g.D.LineParty.sent_text c.args.again) c.args.kept.now.journal.count)
    c.args.sink.now Memory (inr refl) (none_of_it g.W.Sink.wrote c.args.sink.now (opening_text (sent_again g.D.LineParty.sent_text c.args.again) c.args.kept.now.journal.count)) (λ _. inl (λ _ before. before)))

pub returns-in_err-write-clause-stopped : goal.returns-in_err-write-clause-stopped
returns-in_err-write-clause-stopped g c =
    let p = err_from_is_err_and c.from_residual-in_err-write.result c.from_residual-in_err-write.ensures.1 in
    let opened = c.deref.ensures.value ∙ c.in_ok-first.ensures in
    let sent = subst (λ (w : List ℕ). AppendedFront g.W.Sink.wrote c.args.sink.now c.write.new.sink w) opened c.in_err-write.ensures.front in
    let only : c.in_err-write.field-0.0 ≡ Sink = c.in_err-write.ensures.only in
    rw (p.1, p.2) (unstarted (AnswersLine g.D.LineParty.asked g.D.Keeper.says g.D.Keeper.takes g.D.Keeper.tells g.D.Keeper.refuses g.D.LineParty.sent_text g.D.LineParty.told_text g.D.LineParty.refused_text) g.W.Sink.wrote g.K.Disk.held g.K.Disk.may_leave c.args.kept.now (g.S.Source.left c.args.source.now) c.args.sink.now
    (opening_text (sent_again g.D.LineParty.sent_text c.args.again) c.args.kept.now.journal.count)
    c.write.new.sink c.in_err-write.field-0.0 (inl only)
    (front_of_it g.W.Sink.wrote c.args.sink.now c.write.new.sink (opening_text (sent_again g.D.LineParty.sent_text c.args.again) c.args.kept.now.journal.count) sent)
    (λ memory. absurd (sink_not_memory c.in_err-write.field-0.0 only memory)))

pub returns-in_err-lines-clause-stopped : goal.returns-in_err-lines-clause-stopped
returns-in_err-lines-clause-stopped g c =
    let p = err_from_is_err_and c.from_residual-in_err-lines.result c.from_residual-in_err-lines.ensures.1 in
    let opened = c.deref.ensures.value ∙ c.in_ok-first.ensures in
    let sent = subst (λ (w : List ℕ). Appended g.W.Sink.wrote c.args.sink.now c.write.new.sink w) opened c.in_ok-write.ensures.all in
    rw (p.1, p.2) (unstarted (AnswersLine g.D.LineParty.asked g.D.Keeper.says g.D.Keeper.takes g.D.Keeper.tells g.D.Keeper.refuses g.D.LineParty.sent_text g.D.LineParty.told_text g.D.LineParty.refused_text) g.W.Sink.wrote g.K.Disk.held g.K.Disk.may_leave c.args.kept.now (g.S.Source.left c.args.source.now) c.args.sink.now
    (opening_text (sent_again g.D.LineParty.sent_text c.args.again) c.args.kept.now.journal.count)
    c.write.new.sink Memory (inr refl) (all_of_it g.W.Sink.wrote c.args.sink.now c.write.new.sink (opening_text (sent_again g.D.LineParty.sent_text c.args.again) c.args.kept.now.journal.count) sent) (λ _. inr sent))

pub loop-number-init : goal.loop-number-init
loop-number-init g c =
    let opened = c.deref.ensures.value ∙ c.in_ok-first.ensures in
    let sent = subst (λ (w : List ℕ). Appended g.W.Sink.wrote c.args.sink.now c.write.new.sink w) opened c.in_ok-write.ensures.all in record {
      served = begun (AnswersLine g.D.LineParty.asked g.D.Keeper.says g.D.Keeper.takes g.D.Keeper.tells g.D.Keeper.refuses g.D.LineParty.sent_text g.D.LineParty.told_text g.D.LineParty.refused_text) g.W.Sink.wrote g.K.Disk.held g.K.Disk.may_leave c.args.kept.now (g.S.Source.left c.args.source.now) c.args.sink.now
          (opening_text (sent_again g.D.LineParty.sent_text c.args.again) c.args.kept.now.journal.count)
          c.write.new.sink c.in_ok-lines.lines.ahead c.in_ok-lines.ensures sent;
      crashed = no_turn g.D.LineParty.asked g.D.Keeper.says g.D.Keeper.takes (AnswersLine g.D.LineParty.asked g.D.Keeper.says g.D.Keeper.takes g.D.Keeper.tells g.D.Keeper.refuses g.D.LineParty.sent_text g.D.LineParty.told_text g.D.LineParty.refused_text) g.K.Disk.moment g.K.Disk.left_since g.K.Disk.may_leave
          c.args.kept.now.party (g.S.Source.left c.args.source.now) (g.S.Source.left c.args.source.now) c.args.kept.now.journal.mark c.args.kept.now.journal.texts c.args.kept.now.journal.disk
          (g.met.K.Disk.only_now c.args.kept.now.journal.disk);
      source = refl;
      sink = c.in_ok-write.ensures.uncounted;
      disk = refl;
    }

pub returns-in_err-turn-clause-stopped : goal.returns-in_err-turn-clause-stopped
returns-in_err-turn-clause-stopped g c =
    let p = err_from_is_err_and c.from_residual-in_err-turn.result c.from_residual-in_err-turn.ensures.1 in
    rw (p.1, p.2) (stopped (AnswersLine g.D.LineParty.asked g.D.Keeper.says g.D.Keeper.takes g.D.Keeper.tells g.D.Keeper.refuses g.D.LineParty.sent_text g.D.LineParty.told_text g.D.LineParty.refused_text) g.W.Sink.wrote g.K.Disk.held g.K.Disk.may_leave c.args.kept.now (g.S.Source.left c.args.source.now) c.args.sink.now
    (opening_text (sent_again g.D.LineParty.sent_text c.args.again) c.args.kept.now.journal.count)
    c.loop-number.kept c.turn.new.kept (g.S.Source.left c.loop-number.source) (g.S.Source.left c.turn.new.source) c.loop-number.sink c.turn.new.sink c.loop-number.lines.ahead c.loop-number.number c.in_err-turn.field-0.0
    c.loop-number.invariant.served c.in_err-turn.ensures.stopped)

pub returns-in_err-turn-clause-any_moment : goal.returns-in_err-turn-clause-any_moment
returns-in_err-turn-clause-any_moment g c =
    let t = c.in_err-turn.ensures.stopped in
    crashed (AnswersLine g.D.LineParty.asked g.D.Keeper.says g.D.Keeper.takes g.D.Keeper.tells g.D.Keeper.refuses g.D.LineParty.sent_text g.D.LineParty.told_text g.D.LineParty.refused_text) g.W.Sink.wrote g.K.Disk.held g.K.Disk.may_leave c.args.kept.now (g.S.Source.left c.args.source.now) c.args.sink.now
    (opening_text (sent_again g.D.LineParty.sent_text c.args.again) c.args.kept.now.journal.count)
    g.D.LineParty.asked g.D.Keeper.says g.D.Keeper.takes g.K.Disk.moment g.K.Disk.left_since c.loop-number.kept c.turn.new.kept.journal.disk (g.S.Source.left c.loop-number.source) (g.S.Source.left c.turn.new.source)
    c.loop-number.sink c.loop-number.lines.ahead t.taken c.loop-number.number c.loop-number.invariant.served t.came c.loop-number.invariant.crashed c.turn.ensures.any_moment

pub returns-then-not-branch-clause-answered : goal.returns-then-not-branch-clause-answered
returns-then-not-branch-clause-answered g c =
    let none : c.in_ok-turn.field-0 ≡ false = search rules in
    ended (AnswersLine g.D.LineParty.asked g.D.Keeper.says g.D.Keeper.takes g.D.Keeper.tells g.D.Keeper.refuses g.D.LineParty.sent_text g.D.LineParty.told_text g.D.LineParty.refused_text) g.W.Sink.wrote g.K.Disk.held g.K.Disk.may_leave c.args.kept.now (g.S.Source.left c.args.source.now) c.args.sink.now
    (opening_text (sent_again g.D.LineParty.sent_text c.args.again) c.args.kept.now.journal.count)
    c.loop-number.kept c.turn.new.kept (g.S.Source.left c.loop-number.source) (g.S.Source.left c.turn.new.source) c.loop-number.sink c.turn.new.sink c.loop-number.lines.ahead c.loop-number.number
    c.loop-number.invariant.served (c.in_ok-turn.ensures.ended none)

pub returns-then-not-branch-clause-any_moment : goal.returns-then-not-branch-clause-any_moment
returns-then-not-branch-clause-any_moment g c =
    let none : c.in_ok-turn.field-0 ≡ false = search rules in
    let t = c.in_ok-turn.ensures.ended none in
    crashed (AnswersLine g.D.LineParty.asked g.D.Keeper.says g.D.Keeper.takes g.D.Keeper.tells g.D.Keeper.refuses g.D.LineParty.sent_text g.D.LineParty.told_text g.D.LineParty.refused_text) g.W.Sink.wrote g.K.Disk.held g.K.Disk.may_leave c.args.kept.now (g.S.Source.left c.args.source.now) c.args.sink.now
    (opening_text (sent_again g.D.LineParty.sent_text c.args.again) c.args.kept.now.journal.count)
    g.D.LineParty.asked g.D.Keeper.says g.D.Keeper.takes g.K.Disk.moment g.K.Disk.left_since c.loop-number.kept c.turn.new.kept.journal.disk (g.S.Source.left c.loop-number.source) (g.S.Source.left c.turn.new.source)
    c.loop-number.sink c.loop-number.lines.ahead t.taken c.loop-number.number c.loop-number.invariant.served t.came c.loop-number.invariant.crashed c.turn.ensures.any_moment

pub loop-number-preserved : goal.loop-number-preserved
loop-number-preserved g c =
    let more : c.in_ok-turn.field-0 ≡ true = search rules in
    let t = c.in_ok-turn.ensures.answered more in record {
      served = turned (AnswersLine g.D.LineParty.asked g.D.Keeper.says g.D.Keeper.takes g.D.Keeper.tells g.D.Keeper.refuses g.D.LineParty.sent_text g.D.LineParty.told_text g.D.LineParty.refused_text) g.W.Sink.wrote g.K.Disk.held g.K.Disk.may_leave c.args.kept.now (g.S.Source.left c.args.source.now) c.args.sink.now
          (opening_text (sent_again g.D.LineParty.sent_text c.args.again) c.args.kept.now.journal.count)
          c.loop-number.kept c.turn.new.kept (g.S.Source.left c.loop-number.source) (g.S.Source.left c.turn.new.source) c.loop-number.sink c.turn.new.sink c.loop-number.lines.ahead c.turn.new.lines.ahead c.loop-number.number
          c.loop-number.invariant.served t c.turn.ensures.mark c.in_ok-turn.ensures.goes_on c.in_ok-turn.ensures.durable;
      crashed = crashed (AnswersLine g.D.LineParty.asked g.D.Keeper.says g.D.Keeper.takes g.D.Keeper.tells g.D.Keeper.refuses g.D.LineParty.sent_text g.D.LineParty.told_text g.D.LineParty.refused_text) g.W.Sink.wrote g.K.Disk.held g.K.Disk.may_leave c.args.kept.now (g.S.Source.left c.args.source.now) c.args.sink.now
          (opening_text (sent_again g.D.LineParty.sent_text c.args.again) c.args.kept.now.journal.count)
          g.D.LineParty.asked g.D.Keeper.says g.D.Keeper.takes g.K.Disk.moment g.K.Disk.left_since c.loop-number.kept c.turn.new.kept.journal.disk (g.S.Source.left c.loop-number.source) (g.S.Source.left c.turn.new.source)
          c.loop-number.sink c.loop-number.lines.ahead t.taken c.loop-number.number c.loop-number.invariant.served t.came c.loop-number.invariant.crashed c.turn.ensures.any_moment;
      source = c.in_ok-turn.ensures.source_uncounted (λ is. absurd cc) ∙ c.loop-number.invariant.source;
      sink = c.in_ok-turn.ensures.sink_uncounted (λ is. absurd cc) ∙ c.loop-number.invariant.sink;
      disk = c.in_ok-turn.ensures.uncounted (λ is. absurd cc) ∙ c.loop-number.invariant.disk;
    }

pub returns-clause-stopped : goal.returns-clause-stopped
returns-clause-stopped g c =
    stopped_here (AnswersLine g.D.LineParty.asked g.D.Keeper.says g.D.Keeper.takes g.D.Keeper.tells g.D.Keeper.refuses g.D.LineParty.sent_text g.D.LineParty.told_text g.D.LineParty.refused_text) g.W.Sink.wrote g.K.Disk.held g.K.Disk.may_leave c.args.kept.now (g.S.Source.left c.args.source.now) c.args.sink.now
    (opening_text (sent_again g.D.LineParty.sent_text c.args.again) c.args.kept.now.journal.count)
    c.loop-number.kept (g.S.Source.left c.loop-number.source) c.loop-number.sink c.loop-number.lines.ahead c.loop-number.number Count (λ is. absurd cc) (λ is. absurd cc) c.loop-number.invariant.served

pub returns-in_err-turn-clause-count : goal.returns-in_err-turn-clause-count
returns-in_err-turn-clause-count g c is =
    let p = err_from_is_err_and c.from_residual-in_err-turn.result c.from_residual-in_err-turn.ensures.1 in
    let named = p.1 in
    let same = p.2 in
    let counted : c.in_err-turn.field-0.0 ≡ Count = cc in
    pieces_overran (AnswersLine g.D.LineParty.asked g.D.Keeper.says g.D.Keeper.takes g.D.Keeper.tells g.D.Keeper.refuses g.D.LineParty.sent_text g.D.LineParty.told_text g.D.LineParty.refused_text) g.W.Sink.wrote g.K.Disk.held g.K.Disk.may_leave c.args.kept.now (g.S.Source.left c.args.source.now) c.args.sink.now
    (opening_text (sent_again g.D.LineParty.sent_text c.args.again) c.args.kept.now.journal.count)
    c.loop-number.kept (g.S.Source.left c.loop-number.source) (g.S.Source.left c.turn.new.source) c.loop-number.sink c.loop-number.lines.ahead c.loop-number.number
    c.loop-number.invariant.served (c.in_err-turn.ensures.count (ap Err counted))

pub returns-clause-count : goal.returns-clause-count
returns-clause-count g c _ =
    lines_overran (AnswersLine g.D.LineParty.asked g.D.Keeper.says g.D.Keeper.takes g.D.Keeper.tells g.D.Keeper.refuses g.D.LineParty.sent_text g.D.LineParty.told_text g.D.LineParty.refused_text) g.W.Sink.wrote g.K.Disk.held g.K.Disk.may_leave c.args.kept.now (g.S.Source.left c.args.source.now) c.args.sink.now
    (opening_text (sent_again g.D.LineParty.sent_text c.args.again) c.args.kept.now.journal.count)
    c.loop-number.kept (g.S.Source.left c.loop-number.source) c.loop-number.sink c.loop-number.lines.ahead c.loop-number.number
    c.loop-number.invariant.served c.loop-number-test.false
