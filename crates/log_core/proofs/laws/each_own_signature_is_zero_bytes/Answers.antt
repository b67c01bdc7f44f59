use Rattle.log_sending.proofs.Blanks.{composed-zero}
use Rattle.log_core.proofs.Composed.{row-composed}
use Rattle.log_core.proofs.laws.each_own_signature_is_zero_bytes.Goals as goal

pub returns : goal.returns
returns c s input reply answer =
    composed-zero reply.after.log.past.signed reply.after.signature_len reply.unsigned (row-composed s input reply answer)
