use Rattle.log_sending.proofs.Apart.{composed-apart}
use Rattle.log_core.proofs.Composed.{row-composed}
use Rattle.log_core.proofs.laws.own_signatures_are_apart.Goals as goal

pub returns : goal.returns
returns c s input reply answer = composed-apart reply.after.log.past.signed reply.after.signature_len reply.unsigned (row-composed s input reply answer)
