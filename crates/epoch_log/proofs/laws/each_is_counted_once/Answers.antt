use Rattle.epoch_log.proofs.Read.{statuses-exactly, votes-again, votes-exactly}
use Rattle.epoch_log.proofs.laws.each_is_counted_once.Goals as goal
use Rattle.epoch_log.proofs.Places.{status-again}

pub returns : goal.returns
returns c = record { vote = votes-exactly; vote_again = votes-again; status = statuses-exactly; status_again = status-again }
