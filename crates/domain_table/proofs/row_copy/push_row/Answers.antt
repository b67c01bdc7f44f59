use Rattle.std.proofs.Common.{◌∙◌}
use Rattle.domain_table.proofs.Copies.{added}
use Rattle.domain_table.proofs.row_copy.push_row.Goals as goal

pub returns-in-Ok-clause-ok : goal.returns-in-Ok-clause-ok
returns-in-Ok-clause-ok c = c.in-Ok.ensures.entries ∙ added c.args.rows.now.entries c.args.name c.args.row c.requires
