use Rattle.epoch_log.proofs.Called.{kept-state}
use Rattle.epoch_log.proofs.laws.an_own_status_keeps_a_log.Goals as goal

pub returns : goal.returns
returns c = kept-state
