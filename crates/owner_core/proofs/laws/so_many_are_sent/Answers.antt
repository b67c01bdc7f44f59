use Rattle.owner_core.proofs.Counted.{begun, objected, stepped, submitted}
use Rattle.owner_core.proofs.laws.so_many_are_sent.Goals as goal

pub returns-clause-begin : goal.returns-clause-begin
returns-clause-begin c = λ me later cert asks reply is. begun me cert asks reply later is

pub returns-clause-step : goal.returns-clause-step
returns-clause-step c = λ me later bytes reply is. stepped me bytes reply later is

pub returns-clause-object : goal.returns-clause-object
returns-clause-object c = λ me later cert reply is. objected me cert reply later is

pub returns-clause-submit : goal.returns-clause-submit
returns-clause-submit c = submitted
