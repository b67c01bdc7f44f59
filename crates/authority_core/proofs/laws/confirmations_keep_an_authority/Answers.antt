use Rattle.authority_core.proofs.Growing.{confirm-signed, honest-first, honest-second}
use Rattle.authority_core.proofs.laws.confirmations_keep_an_authority.Goals as goal

pub returns : goal.returns
returns c = record { first = honest-first; second = honest-second; signed = confirm-signed }
