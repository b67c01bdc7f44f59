use Rattle.run_safety.proofs.Runs.{run-named, run-told}
use Rattle.run_safety.proofs.laws.what_is_written_as_accepted_is_held.Goals as goal

pub returns : goal.returns
returns c = record { accepted = run-told; dishonest = run-named }
