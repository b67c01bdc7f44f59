use Rattle.std.proofs.Common.{length}
use Rattle.client_memory.proofs.links.+check_endorsements.Given as goal

abbrev pub decreases-check_endorsements : goal.decreases-check_endorsements
decreases-check_endorsements l = length l.endorsements.now
