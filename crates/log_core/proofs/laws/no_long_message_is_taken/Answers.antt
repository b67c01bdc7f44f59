use Rattle.log_core.proofs.Short.{row-short}
use Rattle.log_core.proofs.laws.no_long_message_is_taken.Goals as goal

pub returns : goal.returns
returns c = row-short
