use Rattle.owner_core.proofs.Stepped.{attached, begun, first, objected, signing, stepped, submitted}
use Rattle.ar_statement.specs.Claims.{answer, handover}
use Rattle.owner_core.proofs.laws.what_is_submitted_is_endorsed.Goals as goal

pub returns-clause-new : goal.returns-clause-new
returns-clause-new c = λ number keys key leaves. first number keys key leaves

pub returns-clause-begin : goal.returns-clause-begin
returns-clause-begin c = λ me later cert asks reply good e. begun me later cert asks reply good e

pub returns-clause-step : goal.returns-clause-step
returns-clause-step c = λ me later bytes reply good e. stepped c.what_was_verified_stays_so.ensures.valid me later bytes reply good e

pub returns-clause-attach : goal.returns-clause-attach
returns-clause-attach c = λ me later digest handover good e. attached me later digest handover good e

pub returns-clause-handover : goal.returns-clause-handover
returns-clause-handover c = λ me later digest bytes good e. signing me later (handover digest) bytes good e

pub returns-clause-staple : goal.returns-clause-staple
returns-clause-staple c = λ me later name digest challenge bytes good e. signing me later (answer name digest challenge) bytes good e

pub returns-clause-object : goal.returns-clause-object
returns-clause-object c = λ me later cert reply good e. objected me later cert reply good e

pub returns-clause-submit : goal.returns-clause-submit
returns-clause-submit c = λ me digest reply good e. submitted me digest reply good e
