use Rattle.ar_safety.proofs.Backing.{counted-backed}
use Rattle.ar_safety.proofs.laws.a_backed_root_is_counted.Goals as goal

pub returns : goal.returns
returns c = counted-backed
