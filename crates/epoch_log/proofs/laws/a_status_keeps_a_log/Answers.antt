use Rattle.epoch_log.proofs.Called.{kept-status}
use Rattle.epoch_log.proofs.laws.a_status_keeps_a_log.Goals as goal

pub returns : goal.returns
returns c = kept-status
