use Rattle.epoch_log.proofs.Read.{confirmations-signed, statuses-signed, votes-signed}
use Rattle.epoch_log.proofs.laws.what_is_signed_is_told.Goals as goal

pub returns : goal.returns
returns c = record { votes = votes-signed; statuses = statuses-signed; confirmations = confirmations-signed }
