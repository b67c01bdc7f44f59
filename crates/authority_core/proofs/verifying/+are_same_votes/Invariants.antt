use Rattle.std.proofs.Common.{length}
use Rattle.authority_core.proofs.verifying.+are_same_votes.Given as goal

-- the first list grows shorter
abbrev pub decreases-are_same_votes : goal.decreases-are_same_votes
decreases-are_same_votes l = length l.one.now
