use Rattle.process_safety.proofs.Either.{kept-replays, replays-kept}
use Rattle.process_safety.proofs.laws.a_log_of_either_journal_is_one.Goals as goal

pub returns : goal.returns
returns c = λ texts first last. (replays-kept texts first last, kept-replays texts first last)
