use Rattle.std.proofs.Common.{inr}
use Rattle.log_core.proofs.Proposals.{leaves-hold, leaves-refused}
use Rattle.log_core.proofs.log_core.LogCore.judge_walked.Goals as goal

pub returns-in-Ok-clause-judged : goal.returns-in-Ok-clause-judged
returns-in-Ok-clause-judged c = leaves-hold c.args.self.now c.args.walked.value c.args.walked.changes.items c.requires.turn c.requires.value c.requires.changes c.in-Ok.ensures

pub returns-in-Err-clause-judged : goal.returns-in-Err-clause-judged
returns-in-Err-clause-judged c = inr (leaves-refused c.args.self.now c.args.walked.value c.in-Err.refusal c.requires.turn c.requires.value c.in-Err.ensures)
