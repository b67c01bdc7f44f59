use Rattle.run_safety.proofs.KeptLines.{kept-records, run-kept}
use Rattle.run_safety.proofs.laws.a_run_keeps_its_nodes.Goals as goal

pub returns : goal.returns
returns c = record { nodes = run-kept; records = kept-records }
