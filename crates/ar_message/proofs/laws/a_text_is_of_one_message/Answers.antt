use Rattle.ar_message.specs.Messages.{message_at, message_text}
use Rattle.ar_cert.proofs.ChangeLaws.{one_text}
use Rattle.ar_message.proofs.MessageLaws.{message_again}
use Rattle.ar_message.proofs.laws.a_text_is_of_one_message.Goals as goal

pub returns : goal.returns
returns c = λ a b x y is_a is_b e. one_text message_at a b (message_text a) (message_text b) x y (message_again a is_a) (message_again b is_b) e
