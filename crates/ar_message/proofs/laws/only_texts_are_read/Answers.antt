use Rattle.ar_message.specs.Confirmation.{confirmation_at, confirmation_text, IsConfirmation}
use Rattle.ar_cert.proofs.ChangeLaws.{only_text}
use Rattle.ar_message.proofs.ConfirmationLaws.{confirmation_again, confirmation_pass}
use Rattle.ar_message.proofs.MessageLaws.{only_messages}
use Rattle.ar_message.proofs.laws.only_texts_are_read.Goals as goal

pub returns-clause-messages : goal.returns-clause-messages
returns-clause-messages c = only_messages

pub returns-clause-confirmations : goal.returns-clause-confirmations
returns-clause-confirmations c = only_text confirmation_at confirmation_text IsConfirmation confirmation_again confirmation_pass
