use Rattle.process_safety.proofs.Going.{act-goes-on, authority-goes-on, log-goes-on, new-is}
use Rattle.process_safety.proofs.laws.a_network_goes_on.Goals as goal

pub returns : goal.returns
returns c = record { new = new-is; log = log-goes-on; authority = authority-goes-on; client = act-goes-on }
