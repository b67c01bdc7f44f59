use Rattle.shared_node.proofs.LawsKeep.{some_seat_made, own_is_made}
use Rattle.shared_node.proofs.laws.each_call_is_of_a_seat.Goals as goal

pub returns-clause-calls : goal.returns-clause-calls
returns-clause-calls g c = some_seat_made _ _ _

pub returns-clause-others : goal.returns-clause-others
returns-clause-others g c = own_is_made _ _ _
