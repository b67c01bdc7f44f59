use Rattle.run_premises.proofs.Meaning.{forged-claim, none-forged}
use Rattle.run_premises.proofs.laws.what_is_not_fair_is_forged.Goals as goal

pub returns-clause-fair : goal.returns-clause-fair
returns-clause-fair c = none-forged

pub returns-clause-forged : goal.returns-clause-forged
returns-clause-forged c = forged-claim
