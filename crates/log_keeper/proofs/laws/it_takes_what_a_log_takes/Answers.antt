use Rattle.log_keeper.proofs.Kept.{log_takes, sent_for}
use Rattle.log_keeper.proofs.laws.it_takes_what_a_log_takes.Goals as goal

pub returns-clause-taken : goal.returns-clause-taken
returns-clause-taken c = log_takes

pub returns-clause-sent : goal.returns-clause-sent
returns-clause-sent c = sent_for
