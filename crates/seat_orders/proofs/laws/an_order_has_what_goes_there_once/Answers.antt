use Rattle.seat_orders.proofs.DealingLemmas.{dealt_each, dealt_alone}
use Rattle.seat_orders.proofs.laws.an_order_has_what_goes_there_once.Goals as goal

pub returns-clause-each : goal.returns-clause-each
returns-clause-each g c = λ workers here things order x thing some_worker is there goes. dealt_each workers here order things x thing some_worker is there goes

pub returns-clause-alone : goal.returns-clause-alone
returns-clause-alone g c = λ workers here things order x is some_there. dealt_alone workers here order things x is some_there
