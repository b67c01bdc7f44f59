use Rattle.log_sending.proofs.Judged.{judged-applies, judged-refused}
use Rattle.log_sending.proofs.laws.changes_are_judged_as_they_apply.Goals as goal

pub returns-clause-applied : goal.returns-clause-applied
returns-clause-applied c = judged-applies

pub returns-clause-refused : goal.returns-clause-refused
returns-clause-refused c = judged-refused
