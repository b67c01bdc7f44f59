use Rattle.std.proofs.Common.{sym, ◌∙◌}
use Rattle.domain_table.specs.Rows.{data_in}
use Rattle.domain_table.proofs.RowLists.{none_ripe}
use Rattle.domain_table.proofs.ripe_rows.has_ripe.Goals as goal

pub returns-then-waiting-eq0 : goal.returns-then-waiting-eq0
returns-then-waiting-eq0 c = sym (none_ripe c.args.epoch (data_in c.args.rows.now.entries) (sym c.requires ∙ c.if-waiting-eq0.true))
