use Rattle.std.proofs.Common.{ap, sym, ◌∙◌, Option, Some}
use Rattle.domain_table.specs.Tables.{Table}
use Rattle.epoch_log.specs.State.{epoch_of, table_of}
use Rattle.log_sending.proofs.Judged.{table-judged}
use Rattle.log_sending.proofs.judging.table_for.Goals as goal

pub returns-in_ok-copy-in-Some : goal.returns-in_ok-copy-in-Some
returns-in_ok-copy-in-Some c =
    table-judged (table_of c.args.log.now.state) c.in_ok-copy-in-Some.field-0 (epoch_of c.args.log.now.state) c.args.changes.now
    (c.in-Some.ensures ∙ ap (λ (t : Table). let o : Option Table = Some t in o) (sym c.in_ok-copy-in-Some.ensures))
