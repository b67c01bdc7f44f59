use Rattle.std.proofs.Common.{◌≡◌, ◌++◌, drop, map}
use Rattle.authority_core.proofs.confirming.voters_of.Given as goal

-- what is there and what is left are all
abbrev pub invariant-loop-vote : goal.invariant-loop-vote
invariant-loop-vote l = l.voters.items ++ map (λ v. v.log) (drop l.vote-index l.votes) ≡ map (λ v. v.log) l.votes
