use Rattle.run_safety.proofs.Confirmed.{confirmed-stays, passing-absent, passing-accepted, passing-ring}
use Rattle.run_safety.proofs.Passing.{delivers-passing, passes-end}
use Rattle.run_safety.proofs.laws.what_a_run_confirms_is_accepted.Goals as goal

pub returns : goal.returns
returns c = record { ring = passing-ring; accepted = passing-accepted; absent = passing-absent; sent = confirmed-stays; delivered = delivers-passing; ended = passes-end }
