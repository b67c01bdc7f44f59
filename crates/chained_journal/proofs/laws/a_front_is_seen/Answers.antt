use Rattle.chained_journal.proofs.Readings.{no_front}
use Rattle.chained_journal.proofs.laws.a_front_is_seen.Goals as goal

pub returns : goal.returns
returns c = no_front
