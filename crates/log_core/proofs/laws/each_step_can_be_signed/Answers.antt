use Rattle.log_sending.proofs.Blanks.{composed-fill}
use Rattle.log_core.proofs.Composed.{row-composed}
use Rattle.log_core.proofs.KeptEndings.{kept-row}
use Rattle.log_core.proofs.laws.each_step_can_be_signed.Goals as goal

pub returns : goal.returns
returns c s input reply keys kept is answer are =
    composed-fill reply.after.log.past.signed reply.after.signature_len keys reply.unsigned
    (kept-row s input reply kept is answer).log.honest.signs_what_it_tells.sound are (row-composed s input reply answer)
