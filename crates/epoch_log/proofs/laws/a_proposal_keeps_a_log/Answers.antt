use Rattle.epoch_log.proofs.Called.{kept-propose}
use Rattle.epoch_log.proofs.laws.a_proposal_keeps_a_log.Goals as goal

pub returns : goal.returns
returns c = kept-propose
