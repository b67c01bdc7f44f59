use Rattle.bound_challenge.proofs.Parts.{one_live}
use Rattle.bound_challenge.proofs.laws.a_live_challenge_is_of_one_nonce_and_exporter.Goals as goal

pub returns : goal.returns
returns c = one_live
