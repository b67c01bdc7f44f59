use Rattle.run_safety.proofs.Forged.{all-real, run-unforged}
use Rattle.run_safety.proofs.laws.what_a_run_knows_is_real.Goals as goal

pub returns : goal.returns
returns c = record { known = all-real; records = run-unforged }
