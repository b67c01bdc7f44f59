use Rattle.epoch_log.proofs.Called.{kept-ballot}
use Rattle.epoch_log.proofs.laws.a_ballot_keeps_a_log.Goals as goal

pub returns : goal.returns
returns c = kept-ballot
