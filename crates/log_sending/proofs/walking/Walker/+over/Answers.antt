use Rattle.log_sending.proofs.Walks.{over-end}
use Rattle.log_sending.proofs.walking.Walker.+over.Goals as goal

pub returns-in-empty-clause-taken : goal.returns-in-empty-clause-taken
returns-in-empty-clause-taken t c = (over-end c.args.self.now c.args.queue.now c.in-empty.len_below).0

pub returns-in-empty-clause-table : goal.returns-in-empty-clause-table
returns-in-empty-clause-table t c = (over-end c.args.self.now c.args.queue.now c.in-empty.len_below).1
