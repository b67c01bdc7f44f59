use Rattle.std.proofs.Common.{sym, ◌∙◌, arith}
use Rattle.domain_table.proofs.ByKeys.{none_behind}
use Rattle.domain_table.proofs.listing.list_pending.Goals as goal

pub loop-i-init : goal.loop-i-init
loop-i-init c = (c.requires ∙ sym (none_behind c.args.rows.now), omega arith)
