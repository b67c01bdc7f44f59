use Rattle.ar_message.proofs.Filled.{same_count}
use Rattle.ar_message.proofs.laws.as_many_are_signed.Goals as goal

pub returns : goal.returns
returns c = same_count
