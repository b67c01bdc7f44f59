use Rattle.ar_base.proofs.Giving.{refused, given}
use Rattle.ar_base.proofs.laws.a_refusal_is_given.Goals as goal

pub returns-clause-refused : goal.returns-clause-refused
returns-clause-refused g c = refused

pub returns-clause-given : goal.returns-clause-given
returns-clause-given g c = given
