use Rattle.std.proofs.Common.{refl}
use Rattle.epoch_log.specs.Calls.{after_endorsed}
use Rattle.epoch_log.specs.Log.{state_in}
use Rattle.epoch_log.proofs.Called.{kept-endorsed}
use Rattle.epoch_log.proofs.Moved.{log-moved, log-same}
use Rattle.epoch_log.proofs.parts.Parts.endorsed.Goals as goal

pub returns-in-Ok-clause-kept : goal.returns-in-Ok-clause-kept
returns-in-Ok-clause-kept c =
    log-moved c.args.self.now c.see_endorsements.new.self (after_endorsed (state_in c.args.self.now) c.args.change.now) c.in-Ok.ensures.ok c.see_endorsements.ensures.tables
    c.requires.kept (kept-endorsed (state_in c.args.self.now) c.args.change.now c.requires.kept.kept c.requires.endorsers) refl

pub returns-in-Err-clause-kept : goal.returns-in-Err-clause-kept
returns-in-Err-clause-kept c = log-same c.args.self.now c.see_endorsements.new.self c.in-Err.ensures.err c.see_endorsements.ensures.tables c.requires.kept
