use Rattle.run_safety.proofs.Fronts.{fronts-last}
use Rattle.run_safety.proofs.laws.what_is_signed_stays_signed.Goals as goal

pub returns : goal.returns
returns c = fronts-last
