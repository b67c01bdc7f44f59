use Rattle.ar_safety.proofs.Succession.{judged-in-order, taken-in-order}
use Rattle.ar_safety.proofs.laws.what_is_accepted_does_not_go_back.Goals as goal

pub returns : goal.returns
returns c = record { records = judged-in-order; verdicts = taken-in-order }
