use Rattle.log_core.proofs.KeptEndings.{skip-leaves}
use Rattle.log_core.proofs.laws.a_skip_leaves_table_and_queue.Goals as goal

pub returns : goal.returns
returns c = skip-leaves
