use Rattle.kept_journal.proofs.Costs.{opening_around, opening_short}
use Rattle.kept_journal.proofs.laws.opening_takes_little.Goals as goal

pub returns-clause-calls : goal.returns-clause-calls
returns-clause-calls c = λ file. (opening_around file).calls

pub returns-clause-bytes : goal.returns-clause-bytes
returns-clause-bytes c = λ file. (opening_around file).bytes

pub returns-clause-changes : goal.returns-clause-changes
returns-clause-changes c = λ file. (opening_around file).changes

pub returns-clause-short : goal.returns-clause-short
returns-clause-short c = opening_short
