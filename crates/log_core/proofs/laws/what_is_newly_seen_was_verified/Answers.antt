use Rattle.log_core.proofs.Sees.{row-sees}
use Rattle.log_core.proofs.laws.what_is_newly_seen_was_verified.Goals as goal

pub returns : goal.returns
returns c = row-sees
