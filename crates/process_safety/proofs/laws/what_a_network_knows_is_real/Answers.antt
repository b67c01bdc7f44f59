use Rattle.process_safety.proofs.Real.{network-real, network-unforged}
use Rattle.process_safety.proofs.laws.what_a_network_knows_is_real.Goals as goal

pub returns : goal.returns
returns c = record { known = network-real; records = network-unforged }
