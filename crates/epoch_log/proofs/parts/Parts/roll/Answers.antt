use Rattle.epoch_log.proofs.Moved.{log-rolled, log-same}
use Rattle.epoch_log.proofs.parts.Parts.roll.Goals as goal

pub returns-in-Ok-clause-kept : goal.returns-in-Ok-clause-kept
returns-in-Ok-clause-kept c =
    log-rolled c.args.self.now c.announce.new.self c.args.next.now c.in-Ok.due c.key_told.ensures.text c.key_told.ensures.widths c.in-Ok.ensures.answer
    c.in-Ok.ensures.ok c.announce.ensures.tables c.requires

pub returns-in-Err-clause-kept : goal.returns-in-Err-clause-kept
returns-in-Err-clause-kept c = log-same c.args.self.now c.announce.new.self c.in-Err.ensures.err c.announce.ensures.tables c.requires
