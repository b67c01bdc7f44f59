use Rattle.chained_journal.proofs.Sectors.{none_torn}
use Rattle.chained_journal.proofs.laws.no_end_is_torn_in_sectors.Goals as goal

pub returns : goal.returns
returns c = none_torn
