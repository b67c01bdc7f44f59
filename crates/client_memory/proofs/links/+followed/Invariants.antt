use Rattle.std.proofs.Common.{length}
use Rattle.client_memory.proofs.links.+followed.Given as goal

abbrev pub decreases-followed : goal.decreases-followed
decreases-followed l = length l.links.now
