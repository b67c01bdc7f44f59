use Rattle.shared_node.proofs.LawsKeep.{one_history}
use Rattle.shared_node.proofs.laws.two_seats_have_seen_one_history.Goals as goal

pub returns : goal.returns
returns g c = one_history _ _ _
