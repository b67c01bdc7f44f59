use Rattle.std.proofs.Common.{arith}
use Rattle.epoch_log.proofs.Moved.{log-fresh}
use Rattle.epoch_log.proofs.parts.Parts.new.Goals as goal

pub returns-clause-kept : goal.returns-clause-kept
returns-clause-kept c = log-fresh c.nothing_yet.result c.args.number c.args.directory c.args.leaves c.nothing_yet.ensures.parts c.nothing_yet.ensures.tables (omega arith) c.requires
