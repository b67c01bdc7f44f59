use Rattle.ar_cert.proofs.Accepted.{serial_at}
use Rattle.ar_cert.proofs.laws.serials_count_a_chain.Goals as goal

pub returns : goal.returns
returns c = serial_at
