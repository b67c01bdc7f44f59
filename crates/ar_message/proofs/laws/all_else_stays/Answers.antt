use Rattle.ar_message.proofs.Places.{same_addresses, stands, stays}
use Rattle.ar_message.proofs.laws.all_else_stays.Goals as goal

pub returns-clause-bytes : goal.returns-clause-bytes
returns-clause-bytes c = λ keys blanks letters all message place out. stays keys blanks letters (λ n e below. stands keys letters _ (all n e below)) message place out

pub returns-clause-addresses : goal.returns-clause-addresses
returns-clause-addresses c = λ keys blanks letters all. same_addresses keys blanks letters (λ n e below. stands keys letters _ (all n e below))
