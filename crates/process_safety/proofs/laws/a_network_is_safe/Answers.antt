use Rattle.process_safety.proofs.Real.{network-safe}
use Rattle.process_safety.proofs.laws.a_network_is_safe.Goals as goal

pub returns : goal.returns
returns c = network-safe
