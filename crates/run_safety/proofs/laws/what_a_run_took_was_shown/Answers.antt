use Rattle.run_safety.proofs.Forged.{run-shown}
use Rattle.run_safety.proofs.laws.what_a_run_took_was_shown.Goals as goal

pub returns : goal.returns
returns c = run-shown
