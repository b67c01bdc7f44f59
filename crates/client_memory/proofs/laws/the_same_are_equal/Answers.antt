use Rattle.client_memory.proofs.Same.{same-are-equal}
use Rattle.client_memory.proofs.laws.the_same_are_equal.Goals as goal

pub returns : goal.returns
returns c = same-are-equal
