use Rattle.epoch_log.proofs.Called.{kept-endorsed, saw-endorsed}
use Rattle.epoch_log.proofs.laws.a_queued_change_keeps_a_log.Goals as goal

pub returns-clause-kept : goal.returns-clause-kept
returns-clause-kept c = kept-endorsed

pub returns-clause-endorsed : goal.returns-clause-endorsed
returns-clause-endorsed c = saw-endorsed
