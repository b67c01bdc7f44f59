use Rattle.client_memory.proofs.Keeping.{grows}
use Rattle.client_memory.proofs.laws.what_is_kept_only_grows.Goals as goal

pub returns : goal.returns
returns c = grows
