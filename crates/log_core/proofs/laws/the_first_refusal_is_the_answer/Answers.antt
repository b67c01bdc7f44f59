use Rattle.log_core.proofs.Passed.{first-refused, none-refused}
use Rattle.log_core.proofs.laws.the_first_refusal_is_the_answer.Goals as goal

pub returns-clause-refused : goal.returns-clause-refused
returns-clause-refused c = first-refused

pub returns-clause-made : goal.returns-clause-made
returns-clause-made c = none-refused
