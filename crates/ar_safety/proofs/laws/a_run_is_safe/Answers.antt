use Rattle.ar_safety.proofs.Held.{run-safe}
use Rattle.ar_safety.proofs.laws.a_run_is_safe.Goals as goal

pub returns : goal.returns
returns c = run-safe
