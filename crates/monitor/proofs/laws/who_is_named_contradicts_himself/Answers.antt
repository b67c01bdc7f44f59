use Rattle.monitor.proofs.Pairs.{named}
use Rattle.monitor.proofs.laws.who_is_named_contradicts_himself.Goals as goal

pub returns : goal.returns
returns c = named
