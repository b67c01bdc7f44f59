use Rattle.node_core.proofs.Histories.{replays_on}
use Rattle.node_core.proofs.laws.a_call_more_replays.Goals as goal

pub returns : goal.returns
returns g c first old now history input note reply = replays_on g.C.Core.next g.C.Core.legal first old now history input note reply
