use Rattle.std.proofs.Common.{◌∙◌, subst, ℕ}
use Rattle.std.specs.Prelude.{IfErr, OnOk}
use Rattle.ar_base.specs.Faults.{HasRisen}
use Rattle.desk_run.specs.Answers.{AnswersLine, opening_text, sent_again}
use Rattle.desk_run.specs.Opened.{IsOpened}
use Rattle.desk_run.specs.Runs.{HasAnswered, HasStopped}
use Rattle.desk_run.proofs.Opened.{has_come, run_left}
use Rattle.desk_run.proofs.opening.open_and_answer.Goals as goal

pub returns-clause-run : goal.returns-clause-run
returns-clause-run g c =
    let answers = AnswersLine g.D.LineParty.asked g.D.Keeper.says g.D.Keeper.takes g.D.Keeper.tells g.D.Keeper.refuses g.D.LineParty.sent_text g.D.LineParty.told_text g.D.LineParty.refused_text in
    let o = c.in-Ok.opened in
    let e = c.in-Ok.ensures in
    let a = c.answer_all-ended in
    let count = e.texts.1 in
    record {
      opened = o.0;
      again = o.1;
      is = record { stood = e.stood; replays = e.replays; replied = e.again; texts = e.texts.0; marked = e.texts.2; runs = e.texts.3 };
      answered = subst (λ (n : ℕ). OnOk a.result (HasAnswered answers g.W.Sink.wrote o.0 a.new.kept (g.S.Source.left c.args.source.now) (g.S.Source.left a.new.source) c.args.sink.now a.new.sink (opening_text (sent_again g.D.LineParty.sent_text o.1) n)))
          count a.ensures.answered;
      stopped = subst (λ (n : ℕ). IfErr a.result (HasStopped answers g.W.Sink.wrote g.K.Disk.held o.0 a.new.kept (g.S.Source.left c.args.source.now) (g.S.Source.left a.new.source) c.args.sink.now a.new.sink (opening_text (sent_again g.D.LineParty.sent_text o.1) n)))
          count a.ensures.stopped;
    }

pub returns-clause-any_moment : goal.returns-clause-any_moment
returns-clause-any_moment g c =
    let answers = AnswersLine g.D.LineParty.asked g.D.Keeper.says g.D.Keeper.takes g.D.Keeper.tells g.D.Keeper.refuses g.D.LineParty.sent_text g.D.LineParty.told_text g.D.LineParty.refused_text in
    let o = c.in-Ok.opened in
    let e = c.in-Ok.ensures in
    let a = c.answer_all-ended in
    let first = g.S.Source.left c.args.source.now in
    let last = g.S.Source.left a.new.source in
    let file = g.K.Disk.seen c.args.disk in
    let came = has_come answers g.W.Sink.wrote g.K.Disk.held o.0 a.new.kept a.result first last c.args.sink.now a.new.sink (opening_text (sent_again g.D.LineParty.sent_text o.1) o.0.journal.count) a.ensures.answered a.ensures.stopped in
    let is : IsOpened g.D.Keeper.takes c.args.mark.now file c.args.party o.0 o.1 =
    record { stood = e.stood; replays = e.replays; replied = e.again; texts = e.texts.0; marked = e.texts.2; runs = e.texts.3 } in
    run_left g.D.Keeper.takes answers g.D.LineParty.asked g.D.Keeper.says g.K.Disk.moment g.K.Disk.left_since g.K.Disk.may_leave
    c.args.mark.now file (g.K.Disk.seen o.0.journal.disk) c.args.party o.0 o.1 c.args.disk a.new.kept.journal.disk first last came.0 came.1 is
    e.durable.0 e.durable.1 e.any_moment a.ensures.any_moment

pub returns-clause-cause : goal.returns-clause-cause
returns-clause-cause g c =
    let a = c.answer_all-ended in
    let opened = c.in-Ok.ensures.uncounted in
    record {
      disk = λ is. subst (λ (n : ℕ). HasRisen n (g.K.Disk.faults a.new.kept.journal.disk)) opened (a.ensures.disk is c.in-Ok.ensures.texts.3);
      source = a.ensures.source;
      sink = a.ensures.sink;
      count = a.ensures.count;
      no_disk = λ other. a.ensures.disk_uncounted other ∙ opened;
      no_source = a.ensures.source_uncounted;
      no_sink = a.ensures.sink_uncounted;
    }
