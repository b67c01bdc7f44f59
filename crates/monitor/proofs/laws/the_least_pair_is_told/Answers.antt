use Rattle.monitor.proofs.Exact.{told-least}
use Rattle.monitor.proofs.laws.the_least_pair_is_told.Goals as goal

pub returns : goal.returns
returns c = told-least
