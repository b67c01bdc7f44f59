use Rattle.ar_safety.proofs.Fresh.{fresh-honest, fresh-premises}
use Rattle.ar_safety.proofs.laws.fresh_logs_meet_the_premises.Goals as goal

pub returns : goal.returns
returns c = record { honest = fresh-honest; premises = fresh-premises }
