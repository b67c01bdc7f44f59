use Rattle.process_safety.proofs.Kept.{network-kept}
use Rattle.process_safety.proofs.laws.any_histories_are_kept.Goals as goal

pub returns : goal.returns
returns c = network-kept
