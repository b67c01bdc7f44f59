use Rattle.ar_claims.proofs.Each.{behind-half, behind-log, statuses, votes}
use Rattle.ar_claims.proofs.laws.each_vote_is_claimed.Goals as goal

pub returns-clause-decided : goal.returns-clause-decided
returns-clause-decided c = votes

pub returns-clause-skipped : goal.returns-clause-skipped
returns-clause-skipped c = statuses

pub returns-clause-confirmed : goal.returns-clause-confirmed
returns-clause-confirmed c = behind-log

pub returns-clause-confirmed_twice : goal.returns-clause-confirmed_twice
returns-clause-confirmed_twice c = behind-half
