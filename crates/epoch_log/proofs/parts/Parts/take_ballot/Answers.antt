use Rattle.std.proofs.Common.{refl}
use Rattle.epoch_log.specs.Log.{state_in}
use Rattle.epoch_log.specs.Calls.{log_with_ballot}
use Rattle.epoch_log.proofs.Called.{kept-log_with_ballot}
use Rattle.epoch_log.proofs.Moved.{log-moved}
use Rattle.epoch_log.proofs.parts.Parts.take_ballot.Goals as goal

pub returns-clause-kept : goal.returns-clause-kept
returns-clause-kept c =
    log-moved c.args.self.now c.put_ballot.new.self (log_with_ballot (state_in c.args.self.now) c.args.log c.args.value c.args.signature) c.put_ballot.ensures.parts c.put_ballot.ensures.tables
    c.requires.kept (kept-log_with_ballot (state_in c.args.self.now) c.args.log c.args.value c.args.signature c.requires.kept.kept c.requires.log) refl
