use Rattle.ar_message.proofs.Places.{each_signed, stands}
use Rattle.ar_message.proofs.laws.each_blank_is_signed.Goals as goal

pub returns : goal.returns
returns c = λ keys blanks letters all apart k d lt. each_signed keys blanks letters (λ n e below. stands keys letters _ (all n e below)) apart k d lt
