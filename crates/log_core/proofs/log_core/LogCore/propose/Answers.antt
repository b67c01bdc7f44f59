use Rattle.log_core.proofs.Proposals.{propose-refused}
use Rattle.log_core.proofs.log_core.LogCore.propose.Goals as goal

pub returns-in-Err-clause-row : goal.returns-in-Err-clause-row
returns-in-Err-clause-row c = propose-refused c.args.self.now c.in-Err.refusal c.in-Err.ensures.judged
