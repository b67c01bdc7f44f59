use Rattle.std.proofs.Common.{inr, sym}
use Rattle.log_core.proofs.Proposals.{turn-refused}
use Rattle.log_core.proofs.log_core.LogCore.judge_order.Goals as goal

pub returns-in-Err-clause-judged : goal.returns-in-Err-clause-judged
returns-in-Err-clause-judged c = inr (turn-refused c.args.self.now c.in-Err.refusal (sym c.in-Err.ensures))
