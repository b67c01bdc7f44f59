use Rattle.std.proofs.Common.{◌∙◌}
use Rattle.domain_table.proofs.ByKeys.{first_put}
use Rattle.domain_table.proofs.listing.put_first.Goals as goal

pub returns : goal.returns
returns c = λ es is. c.in_ok-insert.ensures.entries ∙ first_put c.args.list.now.entries es c.args.key.now c.args.value.now is
