use Rattle.ar_world.specs.Run.{run}
use Rattle.run_safety.proofs.Flushes.{flush-ends, flush-line-ends}
use Rattle.run_safety.proofs.Runs.{run-few}
use Rattle.run_safety.proofs.laws.a_flush_goes_to_its_end.Goals as goal

pub returns-clause-deliveries : goal.returns-clause-deliveries
returns-clause-deliveries c = flush-ends

pub returns-clause-logs : goal.returns-clause-logs
returns-clause-logs c = run-few

pub returns-clause-line : goal.returns-clause-line
returns-clause-line c = λ saying checks input says. flush-line-ends says (run saying checks input).world (run-few saying checks input)
