use Rattle.log_core.proofs.Claiming.{input-sees}
use Rattle.log_core.proofs.laws.what_is_newly_seen_was_claimed.Goals as goal

pub returns : goal.returns
returns c = input-sees
