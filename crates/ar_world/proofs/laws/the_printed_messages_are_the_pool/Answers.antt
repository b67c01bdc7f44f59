use Rattle.ar_world.proofs.Runs.{run-tells, step-tells}
use Rattle.ar_world.proofs.laws.the_printed_messages_are_the_pool.Goals as goal

pub returns-clause-line : goal.returns-clause-line
returns-clause-line c = step-tells

pub returns-clause-script : goal.returns-clause-script
returns-clause-script c = run-tells
