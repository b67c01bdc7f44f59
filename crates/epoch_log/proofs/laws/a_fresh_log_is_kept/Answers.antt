use Rattle.epoch_log.proofs.Called.{kept-fresh}
use Rattle.epoch_log.proofs.laws.a_fresh_log_is_kept.Goals as goal

pub returns : goal.returns
returns c = kept-fresh
