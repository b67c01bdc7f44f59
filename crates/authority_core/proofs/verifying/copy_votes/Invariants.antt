use Rattle.std.proofs.Common.{◌≡◌, take}
use Rattle.authority_core.proofs.verifying.copy_votes.Given as goal

-- the votes so far
abbrev pub invariant-loop-vote : goal.invariant-loop-vote
invariant-loop-vote l = l.copies.items ≡ take l.vote-index l.votes
