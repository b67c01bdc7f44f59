use Rattle.epoch_log.proofs.Acting.{kept-rolling}
use Rattle.epoch_log.proofs.Called.{kept-learn}
use Rattle.epoch_log.proofs.laws.rolls_keep_a_log.Goals as goal

pub returns : goal.returns
returns c = record { learn = kept-learn; roll = kept-rolling }
