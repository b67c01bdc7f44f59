use Rattle.std.proofs.Common.{arith}
use Rattle.party_keys.proofs.Claims.{read_is}
use Rattle.monitor.proofs.sworn.statement_in.Goals as goal

pub returns : goal.returns
returns c = read_is c.args.text.now c.read.result (λ i. omega (arith, c.type_inv.text i)) c.read.ensures.found c.read.ensures.only
