use Rattle.epoch_log.proofs.Called.{kept-skip}
use Rattle.epoch_log.proofs.laws.a_skip_keeps_a_log.Goals as goal

pub returns : goal.returns
returns c = kept-skip
