use Rattle.std.proofs.Common.{◌≡◌, ◌++◌, drop, map}
use Rattle.party_keys.specs.Signers.{seen_in}
use Rattle.authority_core.proofs.confirming.seen_in.Given as goal

-- what is there and what is left are all
abbrev pub invariant-loop-claim : goal.invariant-loop-claim
invariant-loop-claim l = l.seen.items ++ map seen_in (drop l.claim-index l.claims) ≡ map seen_in l.claims
