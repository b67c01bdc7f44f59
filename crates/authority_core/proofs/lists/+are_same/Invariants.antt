use Rattle.std.proofs.Common.{length}
use Rattle.authority_core.proofs.lists.+are_same.Given as goal

-- the first list grows shorter
abbrev pub decreases-are_same : goal.decreases-are_same
decreases-are_same l = length l.one.now
