use Rattle.ar_safety.proofs.RegisteredRun.{run-accepted, run-confirmed, run-honest, run-premises}
use Rattle.ar_safety.proofs.RegisteredTable.{run-registered}
use Rattle.ar_safety.proofs.laws.an_accepting_run_meets_the_premises.Goals as goal

pub returns : goal.returns
returns c = record { honest = run-honest; premises = run-premises; accepted = run-accepted; registered = run-registered; confirmed = run-confirmed }
