use Rattle.epoch_log.proofs.Called.{kept-vote}
use Rattle.epoch_log.proofs.laws.a_vote_keeps_a_log.Goals as goal

pub returns : goal.returns
returns c = kept-vote
