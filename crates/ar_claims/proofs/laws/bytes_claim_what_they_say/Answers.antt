use Rattle.ar_claims.proofs.Shown.{confirmation-claims, message-claims}
use Rattle.ar_claims.proofs.laws.bytes_claim_what_they_say.Goals as goal

pub returns-clause-messages : goal.returns-clause-messages
returns-clause-messages c = message-claims

pub returns-clause-confirmations : goal.returns-clause-confirmations
returns-clause-confirmations c = confirmation-claims
