use Rattle.std.proofs.Common.{◌≡◌}
use Rattle.desk_run.specs.Answers.{AnswersLine, opening_text, sent_again}
use Rattle.desk_run.proofs.Crashed.{LeavesSoFar}
use Rattle.desk_run.proofs.Served.{IsServed}
use Rattle.desk_run.proofs.serving.answer_all.Given as goal

-- the turns so far: what they came to, what a crash left in them, and that no call failed
abbrev pub invariant-loop-number : goal.invariant-loop-number
invariant-loop-number g l =
    let answers = AnswersLine g.D.LineParty.asked g.D.Keeper.says g.D.Keeper.takes g.D.Keeper.tells g.D.Keeper.refuses g.D.LineParty.sent_text g.D.LineParty.told_text g.D.LineParty.refused_text in record {
      served : IsServed answers g.W.Sink.wrote g.K.Disk.held g.K.Disk.may_leave l.fn.kept (g.S.Source.left l.fn.source) l.fn.sink
          (opening_text (sent_again g.D.LineParty.sent_text l.fn.again) l.fn.kept.journal.count) l.kept (g.S.Source.left l.source) l.sink l.lines.ahead l.number;
      crashed : LeavesSoFar g.D.LineParty.asked g.D.Keeper.says g.D.Keeper.takes answers g.K.Disk.moment g.K.Disk.left_since g.K.Disk.may_leave l.fn.kept.party (g.S.Source.left l.fn.source)
          (g.S.Source.left l.source) l.fn.kept.journal.mark l.fn.kept.journal.texts l.fn.kept.journal.disk l.kept.journal.disk;
      source : g.S.Source.faults l.source ≡ g.S.Source.faults l.fn.source;
      sink : g.W.Sink.faults l.sink ≡ g.W.Sink.faults l.fn.sink;
      disk : g.K.Disk.faults l.kept.journal.disk ≡ g.K.Disk.faults l.fn.kept.journal.disk;
    }
