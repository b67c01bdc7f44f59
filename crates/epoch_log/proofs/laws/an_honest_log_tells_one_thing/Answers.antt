use Rattle.epoch_log.proofs.Read.{one-vote, status-is-vote}
use Rattle.epoch_log.proofs.laws.an_honest_log_tells_one_thing.Goals as goal

pub returns : goal.returns
returns c = record { votes = one-vote; status = status-is-vote }
