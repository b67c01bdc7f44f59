use Rattle.ar_world.proofs.Settling.{authority_delivery_settled, log_delivery_settled}
use Rattle.ar_world.proofs.laws.a_delivery_is_a_reply_that_is_settled.Goals as goal

pub returns-clause-log : goal.returns-clause-log
returns-clause-log c = log_delivery_settled

pub returns-clause-authority : goal.returns-clause-authority
returns-clause-authority c = authority_delivery_settled
