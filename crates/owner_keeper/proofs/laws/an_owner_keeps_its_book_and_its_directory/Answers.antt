use Rattle.owner_keeper.proofs.Kept.{kept_by, kept_first, kept_reached}
use Rattle.owner_keeper.proofs.laws.an_owner_keeps_its_book_and_its_directory.Goals as goal

pub returns-clause-new : goal.returns-clause-new
returns-clause-new c = kept_first

pub returns-clause-order : goal.returns-clause-order
returns-clause-order c = kept_by

pub returns-clause-reached : goal.returns-clause-reached
returns-clause-reached c = kept_reached
