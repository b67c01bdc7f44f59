use Rattle.std.proofs.Common.{◌≡◌, ◌++◌, drop, map}
use Rattle.authority_core.specs.Confirming.{voted_by}
use Rattle.authority_core.proofs.confirming.add_votes.Given as goal

-- what is there and what is left are what was there and all
abbrev pub invariant-loop-vote : goal.invariant-loop-vote
invariant-loop-vote l = l.claims.items ++ map (voted_by l.part) (drop l.vote-index l.votes) ≡ l.initial.claims.items ++ map (voted_by l.part) l.votes
