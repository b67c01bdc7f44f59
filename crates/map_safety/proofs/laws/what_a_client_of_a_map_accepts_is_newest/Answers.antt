use Rattle.map_safety.proofs.Tables.{absence-of, newest-of, order-of}
use Rattle.map_safety.proofs.laws.what_a_client_of_a_map_accepts_is_newest.Goals as goal

pub returns : goal.returns
returns c = record { newest = newest-of; absence = absence-of; order = order-of }
