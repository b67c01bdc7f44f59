use Rattle.run_safety.proofs.Safe.{safe-run}
use Rattle.run_safety.proofs.laws.a_run_is_safe.Goals as goal

pub returns : goal.returns
returns c = safe-run
