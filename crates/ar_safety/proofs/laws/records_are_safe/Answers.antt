use Rattle.ar_safety.proofs.Whole.{agree}
use Rattle.ar_safety.proofs.laws.records_are_safe.Goals as goal

pub returns : goal.returns
returns c = agree
