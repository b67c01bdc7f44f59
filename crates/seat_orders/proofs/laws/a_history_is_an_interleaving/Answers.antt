use Rattle.seat_orders.proofs.CarriesLemmas.{carries_closed}
use Rattle.seat_orders.proofs.laws.a_history_is_an_interleaving.Goals as goal

pub returns : goal.returns
returns g c = λ finish first seen history own told lists number carries begins all apart. carries_closed _ finish first seen history own told lists number carries begins all apart
