use Rattle.owner_keeper.proofs.Numbered.{begun_number, kept_number, known_number}
use Rattle.owner_keeper.proofs.laws.a_draft_keeps_its_number.Goals as goal

pub returns-clause-begun : goal.returns-clause-begun
returns-clause-begun c = begun_number

pub returns-clause-known : goal.returns-clause-known
returns-clause-known c = known_number

pub returns-clause-kept : goal.returns-clause-kept
returns-clause-kept c = kept_number
