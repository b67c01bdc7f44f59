use Rattle.shared_node.proofs.LawsKeep.{own_apart}
use Rattle.shared_node.proofs.laws.no_call_is_of_two_seats.Goals as goal

pub returns : goal.returns
returns g c = own_apart _ _ _
