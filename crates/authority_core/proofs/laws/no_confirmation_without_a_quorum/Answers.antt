use Rattle.authority_core.proofs.Rows.{half-row-many, log-row-many}
use Rattle.authority_core.proofs.laws.no_confirmation_without_a_quorum.Goals as goal

pub returns : goal.returns
returns c = record { first = log-row-many; second = half-row-many }
