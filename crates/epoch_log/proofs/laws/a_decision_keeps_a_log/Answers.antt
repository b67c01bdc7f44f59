use Rattle.epoch_log.proofs.Called.{kept-decide}
use Rattle.epoch_log.proofs.laws.a_decision_keeps_a_log.Goals as goal

pub returns : goal.returns
returns c = kept-decide
