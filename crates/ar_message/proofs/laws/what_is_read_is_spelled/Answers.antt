use Rattle.ar_message.proofs.ConfirmationLaws.{confirmation_pass}
use Rattle.ar_message.proofs.MessageLaws.{message_pass}
use Rattle.ar_message.proofs.laws.what_is_read_is_spelled.Goals as goal

pub returns-clause-messages : goal.returns-clause-messages
returns-clause-messages c = message_pass

pub returns-clause-confirmations : goal.returns-clause-confirmations
returns-clause-confirmations c = confirmation_pass
