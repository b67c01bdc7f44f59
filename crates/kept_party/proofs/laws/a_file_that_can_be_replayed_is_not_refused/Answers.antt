use Rattle.kept_journal.proofs.Rereading.{stands_marked}
use Rattle.kept_party.proofs.Kept.{file_not_bad}
use Rattle.kept_party.proofs.laws.a_file_that_can_be_replayed_is_not_refused.Goals as goal

pub returns-clause-mark : goal.returns-clause-mark
returns-clause-mark g c = stands_marked

pub returns-clause-records : goal.returns-clause-records
returns-clause-records g c = file_not_bad g.P.Keeper.takes g.met.P.Keeper.determined
