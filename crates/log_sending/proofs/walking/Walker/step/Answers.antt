use Rattle.log_sending.proofs.Walks.{over-none}
use Rattle.log_sending.proofs.walking.Walker.step.Goals as goal

pub returns-then-self-eq0 : goal.returns-then-self-eq0
returns-then-self-eq0 c = over-none c.args.self.now c.args.change.now c.requires c.if-self-eq0.true
