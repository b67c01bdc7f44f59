use Rattle.ar_world.proofs.Ordered.{others-later, phase-reached, running-reached, setup-first}
use Rattle.ar_world.proofs.laws.the_setup_comes_first.Goals as goal

pub returns-clause-setup : goal.returns-clause-setup
returns-clause-setup c = setup-first

pub returns-clause-others : goal.returns-clause-others
returns-clause-others c = others-later

pub returns-clause-reached : goal.returns-clause-reached
returns-clause-reached c = phase-reached

pub returns-clause-running : goal.returns-clause-running
returns-clause-running c = running-reached
