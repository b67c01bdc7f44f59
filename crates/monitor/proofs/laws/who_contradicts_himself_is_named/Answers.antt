use Rattle.monitor.proofs.Exact.{exactly}
use Rattle.monitor.proofs.laws.who_contradicts_himself_is_named.Goals as goal

pub returns : goal.returns
returns c = exactly
