use Rattle.monitor.proofs.Exact.{told-once}
use Rattle.monitor.proofs.laws.one_pair_is_told_of_a_party.Goals as goal

pub returns : goal.returns
returns c = told-once
