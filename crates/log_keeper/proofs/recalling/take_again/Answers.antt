use Rattle.log_core.specs.Inputs.{input_of}
use Rattle.log_keeper.proofs.Kept.{same_number}
use Rattle.log_keeper.proofs.recalling.take_again.Goals as goal

pub returns-in-Ok-clause-number : goal.returns-in-Ok-clause-number
returns-in-Ok-clause-number c =
    same_number c.answer.new.log.ring.keys c.args.log.now.core c.answer.new.log.core (input_of c.args.input.now) c.in-Ok.sent c.in-Ok.ensures.row
