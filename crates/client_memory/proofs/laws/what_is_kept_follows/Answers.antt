use Rattle.client_memory.proofs.Keeping.{all-kept}
use Rattle.client_memory.proofs.laws.what_is_kept_follows.Goals as goal

pub returns : goal.returns
returns c = all-kept
