use Rattle.run_safety.proofs.Runs.{run-seated}
use Rattle.run_safety.proofs.laws.a_run_keeps_its_parties.Goals as goal

pub returns : goal.returns
returns c = run-seated
