use Rattle.ar_safety.proofs.Rings.{first-known, learnt-known, rolled-known}
use Rattle.ar_safety.proofs.laws.a_known_ring_stays_known.Goals as goal

pub returns : goal.returns
returns c = record { first = first-known; learnt = learnt-known; rolled = rolled-known }
