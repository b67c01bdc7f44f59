use Rattle.chained_journal.proofs.Witnessed.{changed_seen}
use Rattle.chained_journal.proofs.laws.a_changed_byte_is_seen.Goals as goal

pub returns : goal.returns
returns c = changed_seen
