use Rattle.std.proofs.Common.{refl}
use Rattle.epoch_log.specs.Calls.{stating}
use Rattle.epoch_log.specs.Log.{state_in}
use Rattle.epoch_log.proofs.Acting.{kept-stating}
use Rattle.epoch_log.proofs.Moved.{log-moved}
use Rattle.epoch_log.proofs.parts.Parts.take_status.Goals as goal

pub returns-clause-kept : goal.returns-clause-kept
returns-clause-kept c =
    log-moved c.args.self.now c.put_status.new.self (stating (state_in c.args.self.now)) c.put_status.ensures.parts c.put_status.ensures.tables c.requires.kept
    (kept-stating (state_in c.args.self.now) c.requires.kept.kept c.requires.open c.requires.can.leaf) refl
