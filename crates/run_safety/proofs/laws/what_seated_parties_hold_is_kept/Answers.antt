use Rattle.run_safety.proofs.Held.{seated-kept}
use Rattle.run_safety.proofs.laws.what_seated_parties_hold_is_kept.Goals as goal

pub returns : goal.returns
returns c = seated-kept
