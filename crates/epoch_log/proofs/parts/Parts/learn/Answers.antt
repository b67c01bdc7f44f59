use Rattle.epoch_log.proofs.Moved.{log-learned, log-same}
use Rattle.epoch_log.proofs.parts.Parts.learn.Goals as goal

pub returns-in-Ok-clause-kept : goal.returns-in-Ok-clause-kept
returns-in-Ok-clause-kept c =
    log-learned c.args.self.now c.take_key.new.self c.args.announced.now c.in-Ok.learned c.in-Ok.ensures.answer
    c.in-Ok.ensures.ok c.take_key.ensures.tables c.requires

pub returns-in-Err-clause-kept : goal.returns-in-Err-clause-kept
returns-in-Err-clause-kept c = log-same c.args.self.now c.take_key.new.self c.in-Err.ensures.err c.take_key.ensures.tables c.requires
