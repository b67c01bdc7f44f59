use Rattle.std.proofs.Common.{◌≡◌, drop}
use Rattle.party_keys.specs.Signers.{all_signed}
use Rattle.party_keys.proofs.directory.Directory.all_signed.Given as goal

-- what is left is answered as all are
abbrev pub invariant-loop-claim : goal.invariant-loop-claim
invariant-loop-claim l = all_signed l.self (drop l.claim-index l.claims) ≡ all_signed l.self l.claims
