use Rattle.std.proofs.Common.{refl}
use Rattle.epoch_log.specs.Log.{state_in}
use Rattle.epoch_log.specs.Calls.{with_report}
use Rattle.epoch_log.proofs.Called.{kept-with_report}
use Rattle.epoch_log.proofs.Moved.{log-moved}
use Rattle.epoch_log.proofs.parts.Parts.take_report.Goals as goal

pub returns-clause-kept : goal.returns-clause-kept
returns-clause-kept c =
    log-moved c.args.self.now c.put_report.new.self (with_report (state_in c.args.self.now) c.args.log c.args.value c.args.signature) c.put_report.ensures.parts
    c.put_report.ensures.tables c.requires.kept
    (kept-with_report (state_in c.args.self.now) c.args.log c.args.value c.args.signature c.requires.kept.kept c.requires.log c.requires.value) refl
