use Rattle.monitor.proofs.Exact.{told-pair}
use Rattle.monitor.proofs.laws.what_is_told_is_a_pair.Goals as goal

pub returns : goal.returns
returns c = told-pair
