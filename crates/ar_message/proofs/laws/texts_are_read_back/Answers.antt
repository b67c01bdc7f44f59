use Rattle.ar_message.proofs.ConfirmationLaws.{confirmation_again}
use Rattle.ar_message.proofs.MessageLaws.{message_again}
use Rattle.ar_message.proofs.laws.texts_are_read_back.Goals as goal

pub returns-clause-messages : goal.returns-clause-messages
returns-clause-messages c = message_again

pub returns-clause-confirmations : goal.returns-clause-confirmations
returns-clause-confirmations c = confirmation_again
