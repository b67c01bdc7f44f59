use Rattle.run_replays.proofs.Runs.{ended-replayed, passing-replayed}
use Rattle.run_replays.proofs.laws.an_honest_log_is_what_its_inputs_make_of_a_new_log.Goals as goal

pub returns : goal.returns
returns c = record { passing = passing-replayed; ended = ended-replayed }
