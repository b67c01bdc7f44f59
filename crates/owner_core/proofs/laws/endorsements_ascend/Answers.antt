use Rattle.owner_core.proofs.Taken.{ascend, taken}
use Rattle.owner_core.proofs.laws.endorsements_ascend.Goals as goal

pub returns-clause-few : goal.returns-clause-few
returns-clause-few c = λ new draft later fits few e. ascend new draft later fits few e

pub returns-clause-there : goal.returns-clause-there
returns-clause-there c = λ new draft later e. taken new draft later e
