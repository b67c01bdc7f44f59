use Rattle.std.proofs.Common.{length}
use Rattle.client_memory.proofs.links.+linked.Given as goal

abbrev pub decreases-linked : goal.decreases-linked
decreases-linked l = length l.links.now
