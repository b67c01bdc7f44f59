use Rattle.seat_orders.proofs.DealingLemmas.{dealt_distinct}
use Rattle.seat_orders.proofs.laws.nothing_is_dealt_twice.Goals as goal

pub returns : goal.returns
returns g c = λ workers here things x. dealt_distinct workers here x things
