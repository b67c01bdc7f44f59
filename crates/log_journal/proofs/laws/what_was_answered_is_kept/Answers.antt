use Rattle.log_journal.proofs.Kept.{answered_kept}
use Rattle.log_journal.proofs.laws.what_was_answered_is_kept.Goals as goal

pub returns : goal.returns
returns c = answered_kept
