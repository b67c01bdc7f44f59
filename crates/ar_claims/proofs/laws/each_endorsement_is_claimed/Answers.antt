use Rattle.ar_claims.proofs.Each.{decided, proposed, submitted}
use Rattle.ar_claims.proofs.laws.each_endorsement_is_claimed.Goals as goal

pub returns-clause-submitted : goal.returns-clause-submitted
returns-clause-submitted c = submitted

pub returns-clause-proposed : goal.returns-clause-proposed
returns-clause-proposed c = proposed

pub returns-clause-decided : goal.returns-clause-decided
returns-clause-decided c = decided
