use Rattle.std.proofs.Common.{◌≡◌}
use Rattle.domain_table.proofs.Waiting.{all-waited}
use Rattle.domain_table.proofs.laws.recoveries_have_waited.Goals as goal

pub returns : goal.returns
returns c = λ behind last first each. (all-waited (λ epoch table. table ≡ behind epoch) behind last first each).chains
