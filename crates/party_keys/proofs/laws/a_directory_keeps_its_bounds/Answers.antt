use Rattle.party_keys.proofs.Bounds.{made_keeps}
use Rattle.party_keys.proofs.laws.a_directory_keeps_its_bounds.Goals as goal

pub returns-clause-bounds : goal.returns-clause-bounds
returns-clause-bounds c = made_keeps
