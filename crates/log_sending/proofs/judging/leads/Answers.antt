use Rattle.epoch_log.specs.State.{epoch_of, table_of}
use Rattle.log_sending.proofs.Judged.{judged-table}
use Rattle.log_sending.proofs.judging.leads.Goals as goal

pub returns-then-eq-clause-table : goal.returns-then-eq-clause-table
returns-then-eq-clause-table c =
    judged-table (table_of c.args.log.now.state) c.in_ok-table.table (epoch_of c.args.log.now.state) c.args.changes.now c.in_ok-table.ensures
