use Rattle.std.proofs.Common.{sym}
use Rattle.domain_table.proofs.Places.{row_is}
use Rattle.domain_table.proofs.rows.row_at.Goals as goal

pub returns : goal.returns
returns c d = sym (row_is c.args.rows.now.entries c.args.i d c.index.result.now c.index.ensures)
