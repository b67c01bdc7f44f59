use Rattle.authority_core.proofs.Read.{confirmed-kept, endorsed-asked}
use Rattle.authority_core.proofs.laws.what_is_signed_is_told.Goals as goal

pub returns : goal.returns
returns c = record { endorsements = endorsed-asked; confirmations = confirmed-kept }
