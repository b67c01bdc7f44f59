use Rattle.std.proofs.Common.{sym}
use Rattle.domain_table.specs.Rows.{data_in, greater, lesser, marks_of}
use Rattle.domain_table.proofs.Alone.{pending_found}
use Rattle.domain_table.proofs.tree.pending_now.Goals as goal

pub returns-then-alone : goal.returns-then-alone
returns-then-alone c =
    sym (pending_found (marks_of (lesser c.args.name.now (data_in c.args.rows.now.entries))) c.args.marks.now (marks_of (greater c.args.name.now (data_in c.args.rows.now.entries))) (c.requires.others c.if-alone.true) (c.requires.own c.if-alone.true))
