use Rattle.epoch_log.proofs.Acting.{kept-confirming}
use Rattle.epoch_log.proofs.laws.a_confirmation_keeps_a_log.Goals as goal

pub returns : goal.returns
returns c = kept-confirming
