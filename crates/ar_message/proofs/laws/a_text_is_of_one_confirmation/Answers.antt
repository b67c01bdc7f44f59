use Rattle.ar_message.specs.Confirmation.{confirmation_at, confirmation_text}
use Rattle.ar_cert.proofs.ChangeLaws.{one_text}
use Rattle.ar_message.proofs.ConfirmationLaws.{confirmation_again}
use Rattle.ar_message.proofs.laws.a_text_is_of_one_confirmation.Goals as goal

pub returns : goal.returns
returns c = λ a b x y is_a is_b e. one_text confirmation_at a b (confirmation_text a) (confirmation_text b) x y (confirmation_again a is_a) (confirmation_again b is_b) e
