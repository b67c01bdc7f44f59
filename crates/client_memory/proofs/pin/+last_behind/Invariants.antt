use Rattle.std.proofs.Common.{length}
use Rattle.client_memory.proofs.pin.+last_behind.Given as goal

abbrev pub decreases-last_behind : goal.decreases-last_behind
decreases-last_behind l = length l.changes.now
