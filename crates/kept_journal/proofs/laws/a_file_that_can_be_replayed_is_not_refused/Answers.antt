use Rattle.kept_journal.proofs.Loading.{not_bad}
use Rattle.kept_journal.proofs.laws.a_file_that_can_be_replayed_is_not_refused.Goals as goal

pub returns-clause-records : goal.returns-clause-records
returns-clause-records g c = not_bad g.P.Replay.takes g.met.P.Replay.determined
