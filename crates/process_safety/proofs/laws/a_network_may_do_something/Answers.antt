use Rattle.process_safety.proofs.Examples.{passed-is, passed-stated}
use Rattle.process_safety.proofs.laws.a_network_may_do_something.Goals as goal

pub returns : goal.returns
returns c = record { network = passed-is; stated = passed-stated }
