use Rattle.authority_core.proofs.Growing.{endorse-signed, honest-endorse}
use Rattle.authority_core.proofs.laws.an_endorsement_keeps_an_authority.Goals as goal

pub returns : goal.returns
returns c = record { honest = honest-endorse; signed = endorse-signed }
