use Rattle.chained_journal.proofs.NotRefused.{never_refused}
use Rattle.chained_journal.proofs.laws.a_file_that_can_be_replayed_is_not_refused.Goals as goal

pub returns : goal.returns
returns g c = never_refused g.P.Replay.takes g.met.P.Replay.determined
