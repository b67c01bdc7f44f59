use Rattle.std.proofs.Common.{◌≡◌, ◌++◌, drop, map}
use Rattle.ar_statement.specs.Claims.{log_party}
use Rattle.authority_core.proofs.confirming.add_voters.Given as goal

-- what is there and what is left are what was there and all
abbrev pub invariant-loop-vote : goal.invariant-loop-vote
invariant-loop-vote l = l.parties.items ++ map (λ v. log_party v.log) (drop l.vote-index l.votes) ≡ l.initial.parties.items ++ map (λ v. log_party v.log) l.votes
