use Rattle.monitor.proofs.Named.{honest-log}
use Rattle.monitor.proofs.laws.an_honest_log_is_not_named.Goals as goal

pub returns : goal.returns
returns c = honest-log
